use Rattle.std.specs.Prelude.{codes}
use Rattle.abt_text.specs.Text.{decimal}
use Rattle.abt_step.specs.StateWords.{rate_words}
use Rattle.abt_step.proofs.Closing.{then_text}
use Rattle.abt_step.proofs.state_words.push_conn_words.Goals as goal

pub returns : goal.returns
returns c =
    then_text c.push_rates.result _ (codes "connection ") _ _ _ c.in_ok-push_str.ensures.bytes
    (then_text c.push_rates.result _ (decimal c.args.conn) _ _ _ c.in_ok-push_number.ensures
    (then_text c.push_rates.result _ (rate_words c.args.rate) _ _ _ c.in_ok-push_rate.ensures
    (then_text c.push_rates.result _ (codes " held") _ _ _ c.in_ok-push_str-2.ensures.bytes c.push_rates.ensures)))
