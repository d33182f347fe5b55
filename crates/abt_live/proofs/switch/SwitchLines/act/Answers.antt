-- The step that is asked for stopped.
use Rattle.abt_live.proofs.switch.SwitchLines.act.Goals as goal

pub returns-in-Step-clause-err : goal.returns-in-Step-clause-err
returns-in-Step-clause-err g c = rw c.in-Step.is c.step.ensures.err
