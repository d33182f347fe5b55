use Rattle.abt_entry.proofs.Adding.{adds_last}
use Rattle.abt_json.proofs.cell.push_request.Goals as goal

pub returns : goal.returns
returns c =
    rw (← c.seq.ensures.value, ← c.from.ensures, ← c.floor.ensures.value, ← c.ask.ensures.value)
    (adds_last c.push_rates.result _ _ _ _ _ c.in_ok-push_number.ensures c.push_rates.ensures)
