-- The method's clauses fix where the text is cut.
use Rattle.std.proofs.Common.{◌≡◌, ◌∙◌, ap, sym, arith, take}
use Rattle.abt_draw.proofs.Cut.{floor_char_boundary_is}
use Rattle.abt_draw.proofs.rung.beginning_of.Goals as goal

pub returns : goal.returns
returns c =
    let text = c.args.text.now in
    let kept = c.floor_char_boundary-end in
    let front : c.range.result.now ≡ take kept.result text = c.range.ensures.value ∙ ap (λ n. take n text) (omega arith) in
    front ∙ ap (λ n. take n text) (sym (floor_char_boundary_is text c.args.octets kept.result c.requires (kept.ensures.bound, kept.ensures.boundary, kept.ensures.nearest)))
