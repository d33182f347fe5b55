-- Whole pictures, as SVG texts, as pages and as text (docs/PICTURES.md, "Drawing").
use Rattle.std.specs.Prelude.{◌≡◌, ◌≤◌, List, [], ◌∷◌, length, take, drop, codes}
use Rattle.abt_text.specs.Text.{Text, ◌⋅◌, newline}
use Rattle.abt_net.specs.Topology.{Topology}
use Rattle.abt_chart.specs.Charts.{IsChart}
use Rattle.abt_chart.specs.declared.chart.Chart.{Chart}
use Rattle.abt_model.specs.declared.event.Event.{Event}
use Rattle.abt_reason.specs.Explanation.{IsExplanation}
use Rattle.abt_draw.specs.Bands.{HasBands}
use Rattle.abt_draw.specs.Cells.{HasCells}
use Rattle.abt_draw.specs.Columns.{columns_of}
use Rattle.abt_draw.specs.Drawn.{IsDrawn, IsSpan}
use Rattle.abt_draw.specs.Elements.{document_text}
use Rattle.abt_draw.specs.Escapes.{escaped}
use Rattle.abt_draw.specs.Ladders.{IsLadder}
use Rattle.abt_draw.specs.Legend.{HasLegend}
use Rattle.abt_draw.specs.Levels.{AreRows}
use Rattle.abt_draw.specs.Lifelines.{HasLifelines}
use Rattle.abt_draw.specs.Rows.{HasRows}
use Rattle.abt_draw.specs.Stuck.{HasStuckRows}
use Rattle.abt_draw.specs.Within.{Holds}
use Rattle.abt_draw.specs.declared.place.Span.{Span}
use Rattle.abt_plans.specs.declared.picture.PictureForm.{PictureForm}
use Rattle.abt_plans.specs.declared.picture.PictureForm.TheVariants as form
use Rattle.abt_plans.specs.declared.picture.PicturePlan.{PicturePlan}
use Rattle.abt_draw.specs.declared.point.Size.{Size}
use Rattle.abt_draw.specs.declared.scene.Scene.{Scene}
use Rattle.abt_draw.specs.declared.scene.StuckMark.{StuckMark}
use Rattle.abt_draw.specs.declared.sheet.Sheet.{Sheet}

-- what is told of the entries at which journals are stuck
abbrev pub stuck_lines : List StuckMark → Text
stuck_lines [] = []
stuck_lines (mark ∷ marks) = codes "stuck: " ⋅ mark.text.now ⋅ newline ⋅ stuck_lines marks

-- The words of a picture: the explanation of the run, and behind it what is told of stuck entries.
pub record IsInWords (scene : Scene) (words : Text) : Type 0 where
  pub explanation : Text
  pub explained : IsExplanation scene.net.now scene.lines.now scene.events.now explanation
  pub is : words ≡ explanation ⋅ stuck_lines scene.stuck.now

-- The text is one SVG element, described by these words, with all lifelines, all rows, those of entries at which journals are stuck too,
-- all bands, all cells, and the legend in it.
pub record IsSvg (sheet : Sheet) (words text : Text) : Type 0 where
  pub size : Size
  pub title : Text
  pub style : Text
  pub definitions : Text
  pub content : Text
  pub is : text ≡ document_text size title words style definitions content
  pub lifelines : HasLifelines sheet content
  pub rows : HasRows sheet words content
  pub stuck : HasStuckRows sheet content
  pub bands : HasBands sheet content
  pub cells : HasCells sheet content
  pub legend : HasLegend content

-- The page has that SVG element, and the words below it.
pub record IsPage (sheet : Sheet) (words text : Text) : Type 0 where
  pub svg : Text
  pub is_svg : IsSvg sheet words svg
  pub picture : Holds text svg
  pub below : Holds text (codes "<pre>" ⋅ escaped words ⋅ codes "</pre>")

-- how it is written
abbrev pub IsFile : PictureForm → Sheet → (words text : Text) → Type 0
IsFile form.Svg sheet words text = IsSvg sheet words text
IsFile form.Page sheet words text = IsPage sheet words text
IsFile form.Text sheet words text = IsLadder sheet words text

-- the events of a span
abbrev pub events_in : Span → List Event → List Event
events_in span events = take span.count (drop span.first events)

-- The sheet is of this chart and has the rows of these events, and everybody along a path that is shown has a column; the columns stand apart.
pub record IsSheet (plan : PicturePlan) (scene : Scene) (chart : Chart) (span : Span) (sheet : Sheet) : Type 0 where
  pub of_net : sheet.net.now ≡ scene.net.now
  pub of_chart : sheet.chart.now ≡ chart
  pub columns : sheet.columns.now ≡ columns_of scene.net.now plan.only.items
  pub of_only : sheet.only.now ≡ plan.only.items
  pub of_rows : AreRows plan.only.items scene.net.now sheet.columns.now span.first (events_in span scene.events.now) sheet.rows
  pub of_stuck : sheet.stuck.now ≡ scene.stuck.now
  pub apart : 460 ≤ sheet.step

pub record IsSheetFile (plan : PicturePlan) (scene : Scene) (chart : Chart) (span : Span) (words text : Text) : Type 0 where
  pub sheet : Sheet
  pub is_sheet : IsSheet plan scene chart span sheet
  pub file : IsFile plan.form sheet words text

-- The chart is that of the events that are shown, of a run with others before and behind them.
abbrev pub IsChartOf : Topology → List Event → Span → Chart → Type 0
IsChartOf net events span chart =
    IsChart net (take span.first events) (events_in span events) (drop span.count (drop span.first events)) chart

-- What a plan asks for is drawn, and the text is the picture of it.
pub record IsPicture (plan : PicturePlan) (scene : Scene) (text : Text) : Type 0 where
  pub drawn : IsDrawn plan scene.net.now scene.events.now
  pub span : Span
  pub is_span : IsSpan plan scene.net.now (length scene.events.now) span
  pub chart : Chart
  pub is_chart : IsChartOf scene.net.now scene.events.now span chart
  pub words : Text
  pub in_words : IsInWords scene words
  pub file : IsSheetFile plan scene chart span words text
