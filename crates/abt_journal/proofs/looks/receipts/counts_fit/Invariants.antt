use Rattle.std.proofs.Common.{◌≡◌, ◌≤◌, ◌*◌, ◌^◌, length, take, sum_by}
use Rattle.abt_journal.proofs.looks.receipts.counts_fit.Given as goal

abbrev pub invariant-loop-state : goal.invariant-loop-state
invariant-loop-state l = (l.entries ≤ l.state-index * 2 ^ 64) × (l.entries ≡ sum_by (λ s. length s.entries) (take l.state-index l.states))

abbrev pub invariant-loop-seat : goal.invariant-loop-seat
invariant-loop-seat l = (l.receipts ≤ l.seat-index * 2 ^ 64) × (l.receipts ≡ sum_by (λ s. length s.receipts) (take l.seat-index l.seats))
