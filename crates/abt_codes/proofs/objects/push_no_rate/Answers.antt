use Rattle.abt_entry.proofs.Adding.{adds_both, adds_last}
use Rattle.abt_codes.proofs.objects.push_no_rate.Goals as goal

pub returns : goal.returns
returns c =
    adds_last c.push_null-3.result _ _ _ _ _
    (adds_both _ _ _ _ _ c.in_ok-push_null.ensures c.in_ok-push_null-2.ensures) c.push_null-3.ensures
