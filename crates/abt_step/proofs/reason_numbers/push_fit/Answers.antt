use Rattle.abt_entry.proofs.Adding.{adds_both, adds_last}
use Rattle.abt_step.proofs.reason_numbers.push_fit.Goals as goal

pub returns : goal.returns
returns c =
    rw (← c.saturating_sub.ensures)
    (adds_last c.push_exact-2.result _ _ _ _ _
    (adds_both _ _ _ _ _ (adds_both _ _ _ _ _ c.in_ok-push_number.ensures c.in_ok-push_number-2.ensures) c.in_ok-push_exact.ensures)
    c.push_exact-2.ensures)
