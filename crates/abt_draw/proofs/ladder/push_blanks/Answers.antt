-- One blank less is left.
use Rattle.std.proofs.Common.{◌∙◌, ◌++◌, ◌+◌, ◌-◌, ap, sym, append_assoc, codes, string_bytes}
use Rattle.abt_draw.specs.Ladders.{blanks}
use Rattle.abt_draw.proofs.Counted.{left_with}
use Rattle.abt_draw.proofs.ladder.push_blanks.Goals as goal

pub loop-blank-preserved : goal.loop-blank-preserved
loop-blank-preserved c =
    let n = c.args.count in
    let m = c.loop-blank.blank in
    ap (λ text. text ++ blanks (n - (m + 1))) c.in_ok-push_str.ensures.bytes ∙ append_assoc (string_bytes c.loop-blank.out) (codes " ") (blanks (n - (m + 1)))
    ∙ ap (λ left. string_bytes c.loop-blank.out ++ blanks left) (sym (left_with n m c.loop-blank-test.true)) ∙ c.loop-blank.invariant
