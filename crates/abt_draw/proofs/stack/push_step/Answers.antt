-- The line is the one that was added.
use Rattle.std.proofs.Common.{◌≡◌, ◌∙◌}
use Rattle.std.proofs.lemmas.Result.{on_ok_weaker}
use Rattle.abt_draw.specs.Bands.{told_rate}
use Rattle.abt_draw.proofs.Within.{holds_added}
use Rattle.abt_draw.proofs.stack.push_step.Goals as goal

pub returns-clause-drawn : goal.returns-clause-drawn
returns-clause-drawn c =
    let height = c.height_of-height.ensures.value c.requires in
    let told : c.as_str.result.now ≡ told_rate c.args.level.now.what.now c.args.level.now.units = c.as_str.ensures.value ∙ c.in_ok-told.ensures in
    on_ok_weaker c.push_told_line.result
    (λ is. record { from = c.args.part.from; to = c.args.part.to; line = holds_added _ _ _ (rw (told, c.y-y.ensures, height) at is) })
    c.push_told_line.ensures
