use Rattle.abt_reason.proofs.seen.push_lies.Goals as goal

pub returns-in-Request : goal.returns-in-Request
returns-in-Request c = rw (c.in-Request.is) c.write.ensures.bytes

pub returns-in-Turn : goal.returns-in-Turn
returns-in-Turn c = rw (c.in-Turn.is) c.write-in-Turn.ensures.bytes

pub returns-in-Answer : goal.returns-in-Answer
returns-in-Answer c = rw (c.in-Answer.is, ← c.verdict_text-verdict.ensures) c.write-in-Answer.ensures.bytes
