use Rattle.abt_entry.proofs.Adding.{adds_both, adds_last}
use Rattle.abt_step.proofs.state_members.push_state_members.Goals as goal

pub returns : goal.returns
returns c =
    rw (← c.as_slice.ensures, ← c.as_slice-2.ensures, ← c.as_slice-3.ensures, ← c.as_slice-4.ensures)
    (adds_last c.push_array-2.result _ _ _ _ _
    (adds_both _ _ _ _ _ (adds_both _ _ _ _ _ c.in_ok-push_rate_array.ensures c.in_ok-push_path_array.ensures) c.in_ok-push_array.ensures)
    c.push_array-2.ensures)
