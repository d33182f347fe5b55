-- A run of steps writes its steps.
use Rattle.abt_live_laws.proofs.JournalSteps as steps
use Rattle.abt_live_laws.proofs.law.journals_are_steps.Goals as goal

pub returns : goal.returns
returns g c = steps.journals_are_steps g.J.Write.contents
