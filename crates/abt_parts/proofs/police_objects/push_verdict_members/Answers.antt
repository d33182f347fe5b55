use Rattle.abt_entry.proofs.Adding.{adds_both, adds_last}
use Rattle.abt_parts.proofs.police_objects.push_verdict_members.Goals as goal

pub returns : goal.returns
returns c =
    rw (← c.early_of.ensures) (adds_last c.push_tat.result _ _ _ _ _
    (adds_both _ _ _ _ _ c.in_ok-push_exact.ensures c.in_ok-push_judged.ensures) c.push_tat.ensures)
