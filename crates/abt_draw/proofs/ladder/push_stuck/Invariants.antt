-- With the lines of the entries that are left there will be all lines.
use Rattle.std.proofs.Common.{◌≡◌, ◌++◌, drop, string_bytes}
use Rattle.abt_draw.specs.Ladders.{stuck_text}
use Rattle.abt_draw.proofs.ladder.push_stuck.Given as goal

abbrev pub invariant-loop-mark : goal.invariant-loop-mark
invariant-loop-mark l =
    string_bytes l.out ++ stuck_text l.sheet (drop l.mark-index l.sheet.stuck.now) ≡ string_bytes l.initial.out ++ stuck_text l.sheet l.sheet.stuck.now
