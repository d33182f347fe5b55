use Rattle.abt_reason.proofs.reason.push_request.Goals as goal

pub returns : goal.returns
returns c =
    rw (← c.ask.ensures.value, ← c.units.ensures.value, ← c.in_ok-ask.ensures, ← c.floor.ensures.value, ← c.units-2.ensures.value, ← c.in_ok-floor.ensures)
    c.write.ensures.bytes
