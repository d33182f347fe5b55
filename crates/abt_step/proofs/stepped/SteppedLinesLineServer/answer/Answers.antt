-- What the line asks for is done.
use Rattle.abt_step.proofs.Stepping.{ok_past}
use Rattle.abt_step.proofs.stepped.SteppedLinesLineServer.answer.Goals as goal

pub returns : goal.returns
returns c = ok_past c.carry_out.result _ _ _ _ _ c.asked_on-asked.ensures c.carry_out.ensures
