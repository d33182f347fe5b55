use Rattle.abt_step.proofs.reason_numbers.push_capacity.Goals as goal

pub returns-in-Reserved-BelowSum : goal.returns-in-Reserved-BelowSum
returns-in-Reserved-BelowSum c = rw (c.in-Reserved-BelowSum.is-0, c.in-Reserved-BelowSum.is-1) c.push_exact.ensures
