-- No column so far is the actor's.
use Rattle.std.proofs.Common.{◌≢◌, ◌<◌, ℕ}
use Rattle.std.specs.Prelude.{Some, slice_get}
use Rattle.abt_draw.proofs.actor.column_of.Given as goal

abbrev pub invariant-loop-column : goal.invariant-loop-column
invariant-loop-column l = (k : ℕ) → k < l.column → slice_get l.columns k ≢ Some l.who
