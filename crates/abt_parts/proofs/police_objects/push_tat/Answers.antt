use Rattle.abt_entry.proofs.Adding.{adds_last}
use Rattle.abt_parts.proofs.police_objects.push_tat.Goals as goal

pub returns : goal.returns
returns c =
    rw (← c.tat.ensures.value, ← c.tat-2.ensures.value)
    (adds_last c.push_moment-2.result _ _ _ _ _ c.in_ok-push_moment.ensures c.push_moment-2.ensures)
