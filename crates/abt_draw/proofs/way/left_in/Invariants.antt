-- The cell didn't leave in the events so far.
use Rattle.std.proofs.Common.{◌≡◌, drop}
use Rattle.abt_draw.specs.Cells.{left_in}
use Rattle.abt_draw.proofs.way.left_in.Given as goal

abbrev pub invariant-loop-told : goal.invariant-loop-told
invariant-loop-told l = left_in l.conn l.cell (drop l.told-index l.shown) ≡ left_in l.conn l.cell l.initial.shown
