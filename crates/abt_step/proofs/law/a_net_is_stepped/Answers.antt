-- A run says the answers.
use Rattle.abt_step.proofs.Stepping.{run_said}
use Rattle.abt_step.proofs.law.a_net_is_stepped.Goals as goal

pub returns : goal.returns
returns c = run_said
