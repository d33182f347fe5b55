use Rattle.abt_step.proofs.reason_numbers.push_cause.Goals as goal

pub returns-in-Moment-ClockBack : goal.returns-in-Moment-ClockBack
returns-in-Moment-ClockBack c = rw (c.in-Moment-ClockBack.is-0, c.in-Moment-ClockBack.is-1) c.push_exact.ensures
