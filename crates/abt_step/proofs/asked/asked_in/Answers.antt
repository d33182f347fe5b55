-- Octets are text, or aren't.
use Rattle.std.proofs.Common.{◌∙◌}
use Rattle.abt_step.proofs.Stepping.{utf8_line, no_utf8}
use Rattle.abt_step.proofs.asked.asked_in.Goals as goal

pub returns-in-Ok : goal.returns-in-Ok
returns-in-Ok c = c.asked_by.ensures ∙ utf8_line c.args.octets.now c.in-Ok.text.now (c.in-Ok.ensures.cases.0) (c.in-Ok.ensures.cases.1)

pub returns-in-Err : goal.returns-in-Err
returns-in-Err c = no_utf8 c.args.octets.now (c.in-Err.ensures.cases.0)
