-- Pictures within their files.
use Rattle.std.proofs.Common.{◌≡◌, ◌≤◌, ◌∙◌, ap, sym, ◌++◌, [], append_assoc, codes}
use Rattle.std.specs.Prelude.{Result, Ok, Err, IfOk}
use Rattle.abt_text.specs.Text.{Text, ◌⋅◌}
use Rattle.abt_chart.specs.declared.chart.Chart.{Chart}
use Rattle.abt_draw.specs.Bands.{HasBands}
use Rattle.abt_draw.specs.Cells.{HasCells}
use Rattle.abt_draw.specs.Columns.{columns_of}
use Rattle.abt_draw.specs.Elements.{document_text}
use Rattle.abt_draw.specs.Escapes.{escaped}
use Rattle.abt_draw.specs.Legend.{HasLegend}
use Rattle.abt_draw.specs.Levels.{AreRows}
use Rattle.abt_draw.specs.Lifelines.{HasLifelines}
use Rattle.abt_draw.specs.Pictures.{IsSvg, IsPage, IsFile, IsSheetFile, events_in}
use Rattle.abt_draw.specs.Rows.{HasRows}
use Rattle.abt_draw.specs.Stuck.{HasStuckRows}
use Rattle.abt_draw.specs.Within.{Holds, Grows}
use Rattle.abt_draw.specs.declared.place.Span.{Span}
use Rattle.abt_plans.specs.declared.picture.PicturePlan.{PicturePlan}
use Rattle.abt_draw.specs.declared.point.Size.{Size}
use Rattle.abt_draw.specs.declared.scene.Scene.{Scene}
use Rattle.abt_draw.specs.declared.sheet.Sheet.{Sheet}
use Rattle.abt_draw.proofs.Within.{holds_still}

-- a document is an SVG text if its content has everything
pub svg_made : (sheet : Sheet) (words : Text) (size : Size) (title style definitions content held start text : Text) → start ≡ [] → content ≡ held
    → text ≡ start ++ document_text size title words style definitions content → HasLifelines sheet held → HasRows sheet words held
    → HasStuckRows sheet held → HasBands sheet held → HasCells sheet held → HasLegend held → IsSvg sheet words text
svg_made sheet words size title style definitions content held start text start_is content_is is lifelines rows stuck bands cells legend = record {
  size = size;
  title = title;
  style = style;
  definitions = definitions;
  content = held;
  is = rw (start_is, content_is) at is;
  lifelines = lifelines;
  rows = rows;
  stuck = stuck;
  bands = bands;
  cells = cells;
  legend = legend;
}

-- what was added between two texts is held
pub holds_between : (old new before part behind : Text) → new ≡ old ++ (before ++ (part ++ behind)) → Holds new part
holds_between old new before part behind is =
    record { before = old ++ before; behind = behind; is = is ∙ sym (append_assoc old before (part ++ behind)) }

-- the words of a page are held with what stands round them
pub holds_words : (old new words : Text) → new ≡ old ++ (codes "<pre>" ++ (words ++ codes "</pre>\n")) → Holds new (codes "<pre>" ⋅ words ⋅ codes "</pre>")
holds_words old new words is = record {
  before = old;
  behind = codes "\n";
  is = is ∙ ap (λ (z : Text). old ++ (codes "<pre>" ++ z)) (sym (append_assoc words (codes "</pre>") (codes "\n")));
}

-- a page that grew has its picture and its words
pub page_made : (sheet : Sheet) (words svg shown old new : Text) → shown ≡ svg → IsSvg sheet words svg → Holds old shown
    → Holds old (codes "<pre>" ⋅ escaped words ⋅ codes "</pre>") → Grows old new → IsPage sheet words new
page_made sheet words svg shown old new shown_is is_svg picture below grows = record {
  svg = svg;
  is_svg = is_svg;
  picture = holds_still old new svg grows (rw shown_is at picture);
  below = holds_still old new _ grows below;
}

-- the file of a sheet of these things
pub sheet_file : (plan : PicturePlan) (scene : Scene) (chart : Chart) (span : Span) (words text : Text) (sheet : Sheet) → IsFile plan.form sheet words text
    → sheet.net.now ≡ scene.net.now → sheet.chart.now ≡ chart → sheet.columns.now ≡ columns_of scene.net.now plan.only.items → sheet.only.now ≡ plan.only.items
    → AreRows plan.only.items scene.net.now sheet.columns.now span.first (events_in span scene.events.now) sheet.rows
    → sheet.stuck.now ≡ scene.stuck.now → 460 ≤ sheet.step → IsSheetFile plan scene chart span words text
sheet_file plan scene chart span words text sheet file net chart_is columns only rows stuck apart = record {
  sheet = sheet;
  is_sheet = record { of_net = net; of_chart = chart_is; columns = columns; of_only = only; of_rows = rows; of_stuck = stuck; apart = apart };
  file = file;
}

-- so of a file that may be made
pub sheet_files : {T E : Type 0} (plan : PicturePlan) (scene : Scene) (chart : Chart) (span : Span) (words : Text) (bytes : T → Text) (r : Result T E)
    (sheet : Sheet) → IfOk r (λ text. IsFile plan.form sheet words (bytes text))
    → sheet.net.now ≡ scene.net.now → sheet.chart.now ≡ chart → sheet.columns.now ≡ columns_of scene.net.now plan.only.items → sheet.only.now ≡ plan.only.items
    → AreRows plan.only.items scene.net.now sheet.columns.now span.first (events_in span scene.events.now) sheet.rows
    → sheet.stuck.now ≡ scene.stuck.now → 460 ≤ sheet.step → IfOk r (λ text. IsSheetFile plan scene chart span words (bytes text))
sheet_files plan scene chart span words bytes (Ok text) sheet file net chart_is columns only rows stuck apart =
    sheet_file plan scene chart span words (bytes text) sheet file net chart_is columns only rows stuck apart
sheet_files plan scene chart span words bytes (Err fault) sheet file net chart_is columns only rows stuck apart = tt
