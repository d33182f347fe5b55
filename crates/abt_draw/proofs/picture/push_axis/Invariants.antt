-- The text has only grown.
use Rattle.std.proofs.Common.{string_bytes}
use Rattle.abt_draw.specs.Within.{Grows}
use Rattle.abt_draw.proofs.picture.push_axis.Given as goal

abbrev pub invariant-loop-place : goal.invariant-loop-place
invariant-loop-place l = Grows (string_bytes l.initial.out) (string_bytes l.out)
