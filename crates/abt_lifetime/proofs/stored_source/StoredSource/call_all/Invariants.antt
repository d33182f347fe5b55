use Rattle.std.proofs.Common.{◌≤◌, length, take, vec_len, vec_capacity}
use Rattle.abt_lifetime.specs.Numbers.{AreCarriedOut}
use Rattle.abt_lifetime.proofs.stored_source.StoredSource.call_all.Given as goal

abbrev pub invariant-loop-call : goal.invariant-loop-call
invariant-loop-call g l =
    AreCarriedOut l.fn.self (take l.call-index l.calls) l.requests.items l.self × (vec_len l.requests ≤ l.call-index) × (length l.calls ≤ vec_capacity l.requests)
