use Rattle.abt_explain.proofs.answers.push_verdict.Goals as goal

pub returns : goal.returns
returns c = rw (← c.in_ok-rate.ensures) c.write.ensures.bytes
