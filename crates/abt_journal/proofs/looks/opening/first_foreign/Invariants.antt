use Rattle.std.proofs.Common.{ℕ, ◌<◌}
use Rattle.abt_journal.specs.Foreign.{IsPortOf}
use Rattle.abt_journal.proofs.looks.opening.first_foreign.Given as goal

abbrev pub invariant-loop-place : goal.invariant-loop-place
invariant-loop-place l = (q : ℕ) → q < l.place → IsPortOf l.net l.states q
