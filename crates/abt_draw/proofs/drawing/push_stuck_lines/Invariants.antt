-- With the lines of the marks that are left there will be all lines.
use Rattle.std.proofs.Common.{◌≡◌, ◌++◌, drop, string_bytes}
use Rattle.abt_draw.specs.Pictures.{stuck_lines}
use Rattle.abt_draw.proofs.drawing.push_stuck_lines.Given as goal

abbrev pub invariant-loop-mark : goal.invariant-loop-mark
invariant-loop-mark l =
    string_bytes l.words ++ stuck_lines (drop l.mark-index l.stuck) ≡ string_bytes l.initial.words ++ stuck_lines l.stuck
