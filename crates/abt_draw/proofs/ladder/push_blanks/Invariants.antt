-- With the blanks that are left there will be all blanks.
use Rattle.std.proofs.Common.{◌≡◌, ◌++◌, ◌-◌, string_bytes}
use Rattle.abt_draw.specs.Ladders.{blanks}
use Rattle.abt_draw.proofs.ladder.push_blanks.Given as goal

abbrev pub invariant-loop-blank : goal.invariant-loop-blank
invariant-loop-blank l = string_bytes l.out ++ blanks (l.count - l.blank) ≡ string_bytes l.initial.out ++ blanks l.count
