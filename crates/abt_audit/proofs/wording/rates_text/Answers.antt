-- The codes are those of the rates.
use Rattle.std.proofs.Common.{◌≡◌, ◌∙◌}
use Rattle.abt_rate.specs.Code.{code_of}
use Rattle.abt_text.specs.Text.{code_text}
use Rattle.abt_audit.proofs.wording.rates_text.Goals as goal

pub returns : goal.returns
returns c =
    let floor : c.as_str.result.now ≡ code_text (code_of c.args.floor) = c.as_str.ensures.value ∙ c.in_ok-floor.ensures in
    let ask : c.as_str-2.result.now ≡ code_text (code_of c.args.ask) = c.as_str-2.ensures.value ∙ c.in_ok-ask.ensures in
    rw (floor, ask) at c.asked_words.ensures
