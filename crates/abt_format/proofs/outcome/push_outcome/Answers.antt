use Rattle.abt_format.proofs.outcome.push_outcome.Goals as goal

pub returns-in-NotEnabled : goal.returns-in-NotEnabled
returns-in-NotEnabled c = rw (c.in-NotEnabled.is, ← c.cause_name.ensures) c.push_both-in-NotEnabled.ensures
