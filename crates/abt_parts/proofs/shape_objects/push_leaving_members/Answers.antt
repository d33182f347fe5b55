use Rattle.abt_entry.proofs.Adding.{adds_both, adds_last}
use Rattle.abt_parts.proofs.shape_objects.push_leaving_members.Goals as goal

pub returns : goal.returns
returns c =
    adds_last c.push_exact-3.result _ _ _ _ _
    (adds_both _ _ _ _ _ c.in_ok-push_exact.ensures c.in_ok-push_exact-2.ensures) c.push_exact-3.ensures
