-- The lines that are left; the text has only grown; and the row of each event so far that is shown.
use Rattle.std.proofs.Common.{◌≡◌, ◌+◌, ◌<◌, ℕ, string_bytes}
use Rattle.std.specs.Prelude.{IsTrue, Some, slice_get}
use denote.Text.{Utf8}
use denote.Shadow.{shadow}
use Rattle.abt_chart.specs.declared.crossings.Crossing.{Crossing}
use Rattle.abt_chart.specs.declared.told.Told.{Told}
use Rattle.abt_draw.specs.Levels.{has_row}
use Rattle.abt_draw.specs.Lines.{line_at, behind_lines}
use Rattle.abt_draw.specs.Rows.{HasRow}
use Rattle.abt_draw.specs.Within.{Grows}
use Rattle.abt_draw.proofs.picture.push_rows.Given as goal

abbrev pub invariant-loop-event : goal.invariant-loop-event
invariant-loop-event l =
    shadow (Utf8 l.rest)
    × (l.rest ≡ behind_lines l.explanation l.event)
    × Grows (string_bytes l.initial.out) (string_bytes l.out)
    × ((k : ℕ) (told : Told) (crossing : Crossing) → l.sheet.rows.first + k < l.event → slice_get l.sheet.chart.now.told (l.sheet.rows.first + k) ≡ Some told
    → slice_get l.sheet.chart.now.crossings k ≡ Some crossing → IsTrue (has_row l.sheet.only.now l.sheet.net.now l.sheet.columns.now told.event)
    → HasRow l.sheet (l.sheet.rows.first + k) told crossing (line_at l.explanation (l.sheet.rows.first + k)) (string_bytes l.out))
