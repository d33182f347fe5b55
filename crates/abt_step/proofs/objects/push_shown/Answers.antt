use Rattle.abt_entry.proofs.Adding.{adds_last}
use Rattle.abt_step.proofs.objects.push_shown.Goals as goal

pub returns : goal.returns
returns c = adds_last c.push_possible_shown.result _ _ _ _ _ c.in_ok-push_state_shown.ensures c.push_possible_shown.ensures
