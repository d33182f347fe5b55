use Rattle.abt_entry.proofs.Adding.{adds_last}
use Rattle.abt_step.proofs.reason_numbers.push_window.Goals as goal

pub returns : goal.returns
returns c =
    rw (← c.window_start-from.ensures, ← c.saturating_add.ensures)
    (adds_last c.push_exact-2.result _ _ _ _ _ c.in_ok-push_exact.ensures c.push_exact-2.ensures)
