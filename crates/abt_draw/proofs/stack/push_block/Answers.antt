-- The rectangle is held when what stands in it was added.
use Rattle.std.proofs.Common.{◌≡◌, ◌-◌, ◌∙◌, rules}
use Rattle.std.proofs.lemmas.Result.{on_ok_weaker}
use Rattle.abt_draw.specs.Bands.{class_of, told_hold}
use Rattle.abt_draw.proofs.Within.{holds_added, holds_still}
use Rattle.abt_draw.proofs.stack.push_block.Goals as goal

pub returns-clause-drawn : goal.returns-clause-drawn
returns-clause-drawn c =
    let class : c.as_str.result.now ≡ class_of c.args.conn = search rules in
    let told : c.as_str-2.result.now ≡ told_hold c.args.conn c.args.held = c.as_str-2.ensures.value ∙ c.in_ok-told.ensures in
    let height : c.saturating_sub-2.result ≡ c.args.block.top - c.args.block.bottom = search rules in
    on_ok_weaker c.push_held.result
    (λ grows held. record {
      x = c.args.part.from;
      width = c.saturating_sub.result;
      rect = holds_still _ _ _ grows (holds_added _ _ _ (rw (class, told, c.y.ensures, height) at c.in_ok-push_told_rect.ensures));
    })
    c.push_held.ensures
