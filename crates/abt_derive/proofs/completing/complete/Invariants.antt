-- The entries so far are completed.
use Rattle.abt_derive.proofs.Growing.{IsPartway}
use Rattle.abt_derive.proofs.completing.complete.Given as goal

abbrev pub invariant-loop-place : goal.invariant-loop-place
invariant-loop-place l = IsPartway l.first l.spots l.place l.entries l.derived l.left l.full
