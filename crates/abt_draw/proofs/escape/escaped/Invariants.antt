-- The text so far, and the rest escaped, are the text escaped.
use Rattle.std.proofs.Common.{◌≡◌, ◌++◌, length, string_bytes}
use denote.Text.{Utf8}
use denote.Shadow.{shadow}
use Rattle.abt_draw.specs.Escapes.{escaped}
use Rattle.abt_draw.proofs.escape.escaped.Given as goal

abbrev pub invariant-loop-before : goal.invariant-loop-before
invariant-loop-before l = shadow (Utf8 l.rest) × (string_bytes l.out ++ escaped l.rest ≡ escaped l.text)

abbrev pub decreases-loop-before : goal.decreases-loop-before
decreases-loop-before l = length l.rest
