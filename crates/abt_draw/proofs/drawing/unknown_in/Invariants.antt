-- Each connection so far is known.
use Rattle.std.proofs.Common.{◌≡◌, ◌<◌, ℕ}
use Rattle.std.specs.Prelude.{Some, slice_get}
use Rattle.abt_draw.proofs.drawing.unknown_in.Given as goal

abbrev pub invariant-loop-place : goal.invariant-loop-place
invariant-loop-place l = (k conn : ℕ) → k < l.place → slice_get l.only k ≡ Some conn → conn < l.conns
