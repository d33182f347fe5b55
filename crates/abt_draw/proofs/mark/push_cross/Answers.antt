-- One line behind the other.
use Rattle.std.proofs.Common.{◌≡◌, ◌∙◌, ap, append_assoc, List, ℕ, ◌++◌}
use Rattle.std.proofs.lemmas.Result.{on_ok_weaker}
use Rattle.abt_draw.specs.Elements.{line_text}
use Rattle.abt_draw.specs.Marks.{cross_text}
use Rattle.abt_draw.specs.declared.point.Point.{Point}
use Rattle.abt_draw.proofs.mark.push_cross.Goals as goal

both : (a b c x y z w : List ℕ) → b ≡ a ++ x → c ≡ b ++ y → x ≡ z → y ≡ w → c ≡ a ++ (z ++ w)
both a b c x y z w first last is_x is_y = last ∙ rw (first, is_x, is_y) (append_assoc a z w)

line_same : (class : List ℕ) (p q s t : Point) → p ≡ s → q ≡ t → line_text class p q ≡ line_text class s t
line_same class p q s t e f = ap (λ (x : Point). line_text class x q) e ∙ ap (λ (x : Point). line_text class s x) f

pub returns : goal.returns
unfolding cross_text
returns c = on_ok_weaker c.push_line-2.result
    (λ is. both _ _ _ _ _ _ _ c.in_ok-push_line.ensures is (line_same c.args.class.now _ _ _ _ c.above_left.ensures c.below_right.ensures)
    (line_same c.args.class.now _ _ _ _ c.below_left.ensures c.above_right.ensures))
    c.push_line-2.ensures
