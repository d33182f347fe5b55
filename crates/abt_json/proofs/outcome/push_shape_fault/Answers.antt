use Rattle.abt_entry.proofs.Adding.{adds_last}
use Rattle.abt_json.proofs.outcome.push_shape_fault.Goals as goal

pub returns-in-ClockBack : goal.returns-in-ClockBack
returns-in-ClockBack c = rw (c.in-ClockBack.is) c.push_refused.ensures

pub returns-in_ok-push_refused-in-TooSoon : goal.returns-in_ok-push_refused-in-TooSoon
returns-in_ok-push_refused-in-TooSoon c =
    rw (c.in-TooSoon.is) (adds_last c.push_exact.result _ _ _ _ _ c.in_ok-push_refused-in-TooSoon.ensures c.push_exact.ensures)
