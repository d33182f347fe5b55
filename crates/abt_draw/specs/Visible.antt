-- The events that a picture shows.
use Rattle.std.specs.Prelude.{List, drop, take, length}
use Rattle.abt_chart.specs.declared.told.Told.{Told}
use Rattle.abt_draw.specs.declared.sheet.Sheet.{Sheet}

-- the events that are shown, with what they told
abbrev pub shown_in : Sheet → List Told
shown_in sheet = take (length sheet.rows.levels.now) (drop sheet.rows.first sheet.chart.now.told)
