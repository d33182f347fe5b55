use Rattle.abt_reason.proofs.reason.push_delay.Goals as goal

pub returns : goal.returns
returns c = rw (← c.in_ok-at.ensures, ← c.in_ok-moment.ensures, ← c.in_ok-delay.ensures, ← c.in_ok-tau.ensures) c.write.ensures.bytes
