use Rattle.abt_reason.proofs.reason.push_before.Goals as goal

pub returns : goal.returns
returns c = rw (← c.in_ok-now.ensures, ← c.in_ok-last.ensures) c.write.ensures.bytes
