-- The sheet is of what was passed.
use Rattle.std.proofs.Common.{refl, rules, string_bytes}
use Rattle.abt_draw.proofs.Paged.{sheet_files}
use Rattle.abt_draw.proofs.drawing.sheet_text.Goals as goal

pub returns : goal.returns
returns c =
    sheet_files c.args.plan.now c.args.scene.now c.args.chart.now c.args.span c.args.explanation.now string_bytes c.file_of.result _ c.file_of.ensures refl refl
    c.requires.columns (search rules) c.requires.rows refl c.step_of-step.ensures
