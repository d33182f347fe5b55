-- What is left stands behind so many lines.
use Rattle.std.proofs.Common.{◌≡◌}
use denote.Text.{Utf8}
use denote.Shadow.{shadow}
use Rattle.abt_draw.specs.Lines.{behind_lines}
use Rattle.abt_draw.proofs.ladder.lines_behind.Given as goal

abbrev pub invariant-loop-line : goal.invariant-loop-line
invariant-loop-line l = shadow (Utf8 l.rest) × (l.rest ≡ behind_lines l.text l.line)
