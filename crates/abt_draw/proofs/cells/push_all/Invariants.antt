-- With what is drawn of the events that are left there will be all cells.
use Rattle.std.proofs.Common.{◌≡◌, ◌++◌, drop, string_bytes}
use Rattle.abt_draw.specs.Cells.{cells_of}
use Rattle.abt_draw.proofs.cells.push_all.Given as goal

abbrev pub invariant-loop-told : goal.invariant-loop-told
invariant-loop-told l =
    string_bytes l.out ++ cells_of l.scale l.y l.conn l.shown (drop l.told-index l.shown)
    ≡ string_bytes l.initial.out ++ cells_of l.scale l.y l.conn l.shown l.shown
