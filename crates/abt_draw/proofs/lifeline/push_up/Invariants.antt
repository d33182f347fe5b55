-- The text has only grown.
use Rattle.std.proofs.Common.{string_bytes}
use Rattle.abt_draw.specs.Within.{Grows}
use Rattle.abt_draw.proofs.lifeline.push_up.Given as goal

abbrev pub invariant-loop-event : goal.invariant-loop-event
invariant-loop-event l = Grows (string_bytes l.initial.out) (string_bytes l.out)
