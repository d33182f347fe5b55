use Rattle.abt_entry.proofs.Adding.{adds_last}
use Rattle.abt_json.proofs.exact.push_exact.Goals as goal

pub returns : goal.returns
returns c = adds_last c.push_text_of_great.result _ _ _ _ _ c.in_ok-push_number.ensures c.push_text_of_great.ensures
