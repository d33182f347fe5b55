-- The lines stand at the opening.
use Rattle.abt_step.proofs.Stepping.{on_all}
use Rattle.abt_step.proofs.stepped.SteppedLines.reset.Goals as goal

pub returns-clause-stands : goal.returns-clause-stands
returns-clause-stands c = λ form net opening events stands. on_all c.push_reset.result _ (c.in_ok-begin_anew.ensures form net opening events stands)
