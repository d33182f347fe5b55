use Rattle.abt_entry.proofs.Adding.{adds_last}
use Rattle.abt_check.proofs.objects.push_net.Goals as goal

pub returns : goal.returns
returns c = adds_last c.push_number.result _ _ _ _ _ c.in_ok-push_with_text.ensures c.push_number.ensures
