use Rattle.std.proofs.Common.{ℕ, ◌<◌}
use Rattle.std.specs.Prelude.{All, Contains}
use Rattle.abt_weave.proofs.queue.Queue.of_all.Given as goal

-- those so far are listed
abbrev pub invariant-loop-number : goal.invariant-loop-number
invariant-loop-number l = All (λ i. i < l.number) l.ready.items × ((i : ℕ) → i < l.number → Contains l.ready.items i)
