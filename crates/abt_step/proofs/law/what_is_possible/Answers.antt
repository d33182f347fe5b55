-- What is told is what is enabled.
use Rattle.abt_model.specs.Run.{facts_after}
use Rattle.abt_model.proofs.Sums.{facts_after_lawful}
use Rattle.abt_step.proofs.Arriving.{cells_possible}
use Rattle.abt_step.proofs.Taking.{messages_possible}
use Rattle.abt_step.proofs.law.what_is_possible.Goals as goal

pub returns-clause-messages : goal.returns-clause-messages
returns-clause-messages c = λ net rules events rates. messages_possible net (facts_after net events) rules (facts_after_lawful net events rates).0

pub returns-clause-cells : goal.returns-clause-cells
returns-clause-cells c = λ net rules events rates. cells_possible net (facts_after net events) rules (facts_after_lawful net events rates).0
