use Rattle.abt_entry.proofs.Adding.{adds_both, adds_last}
use Rattle.abt_json.proofs.rate.push_rate_members.Goals as goal

pub returns : goal.returns
returns c =
    adds_last c.push_spacing.result _ _ _ _ _
    (adds_both _ _ _ _ _ c.in_ok-push_rate.ensures (rw c.units.ensures.value at c.in_ok-push_number.ensures)) c.push_spacing.ensures
