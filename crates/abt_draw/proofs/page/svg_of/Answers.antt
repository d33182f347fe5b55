-- What the picture holds its text holds, with the cursor behind it.
use Rattle.std.proofs.Common.{string_bytes}
use Rattle.abt_draw.proofs.Banded.{bands_still}
use Rattle.abt_draw.proofs.Keyed.{legend_still}
use Rattle.abt_draw.proofs.Paged.{svg_made}
use Rattle.abt_draw.proofs.Shown.{cells_still, lifelines_still, rows_still, stuck_rows_still}
use Rattle.abt_draw.proofs.page.svg_of.Goals as goal

pub returns : goal.returns
returns c =
    let grows = c.in_ok-push_cursor.ensures in
    svg_made c.args.sheet.now c.args.explanation.now (record { width = c.width.result; height = c.in_ok-lower.lower }) c.as_str.result.now c.shapes.result.now
    c.definitions.result.now c.as_str-2.result.now (string_bytes c.push_cursor.new.out) (string_bytes c.new-out.result) (string_bytes c.push_document.new.out)
    c.new-out.ensures.bytes c.as_str-2.ensures.value c.in_ok-push_document.ensures
    (lifelines_still c.args.sheet.now _ _ grows c.in_ok-lower.ensures.lifelines)
    (rows_still c.args.sheet.now c.args.explanation.now _ _ grows c.in_ok-lower.ensures.rows)
    (stuck_rows_still c.args.sheet.now _ _ grows c.in_ok-lower.ensures.stuck)
    (bands_still c.args.sheet.now _ _ grows c.in_ok-lower.ensures.bands)
    (cells_still c.args.sheet.now _ _ grows c.in_ok-lower.ensures.cells)
    (legend_still _ _ grows c.in_ok-lower.ensures.legend)
