-- One place less is left.
use Rattle.std.proofs.Common.{◌∙◌, ◌++◌, ◌+◌, ◌-◌, ap, sym, append_assoc, string_bytes}
use Rattle.abt_draw.specs.Rungs.{sign_at, signs_from}
use Rattle.abt_draw.proofs.Counted.{left_with}
use Rattle.abt_draw.proofs.rung.push_signs.Goals as goal

pub loop-place-preserved : goal.loop-place-preserved
loop-place-preserved c =
    let n = c.args.count in
    let m = c.loop-place.place in
    let old = string_bytes c.loop-place.out in
    let rest = signs_from c.args.stroke c.args.marked (m + 1) (n - (m + 1)) in
    ap (λ text. text ++ rest) c.in_ok-push_str.ensures.bytes ∙ append_assoc old c.sign_at.result.now rest
    ∙ ap (λ sign. old ++ (sign ++ rest)) c.sign_at.ensures
    ∙ ap (λ left. old ++ signs_from c.args.stroke c.args.marked m left) (sym (left_with n m c.loop-place-test.true)) ∙ c.loop-place.invariant
