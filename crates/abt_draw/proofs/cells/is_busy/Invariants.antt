-- No cell of the connection left or arrived so far.
use Rattle.std.proofs.Common.{◌≡◌, drop}
use Rattle.abt_draw.specs.Cells.{is_busy}
use Rattle.abt_draw.proofs.cells.is_busy.Given as goal

abbrev pub invariant-loop-told : goal.invariant-loop-told
invariant-loop-told l = is_busy l.conn (drop l.told-index l.shown) ≡ is_busy l.conn l.initial.shown
