use Rattle.std.proofs.Common.{◌≡◌, ◌∙◌, ◌+◌, ◌<◌, ◌++◌, ap, arith, length, string_bytes}
use Rattle.abt_format.specs.OutcomeText.{outcome_text}
use Rattle.abt_check.specs.Tests.{difference_line}
use Rattle.abt_check.proofs.Differences.{grows, next_difference}
use Rattle.abt_check.proofs.testing.push_differences.Goals as goal

pub loop-index-preserved : goal.loop-index-preserved
loop-index-preserved c =
    let i = c.loop-index.index in
    let outcomes = c.args.outcomes.now in
    let texts = c.args.texts.now in
    let outcome = c.index-outcomes-index.result in
    let text = c.index-texts-index.result in
    let test = c.loop-index-test.true in
    let low : i < length outcomes = omega arith in
    let same : length texts ≡ length outcomes = c.requires in
    let few : i < length texts = omega (arith, same, low) in
    let next = next_difference (i + 1) i outcomes texts outcome text low few c.index-outcomes-index.is c.index-texts-index.is in
    let grown = c.in_ok-push_difference.ensures
    ∙ ap (λ t. string_bytes c.loop-index.text ++ difference_line (i + 1) t (outcome_text outcome)) c.as_str-expected.ensures.value in
    grows _ _ _ _ _ _ grown next c.loop-index.invariant
