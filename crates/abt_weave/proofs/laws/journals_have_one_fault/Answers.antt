use Rattle.abt_weave.proofs.OneFault.{one_end, one_fault}
use Rattle.abt_weave.proofs.laws.journals_have_one_fault.Goals as goal

pub returns : goal.returns
returns c = record { ends = one_end; fault = one_fault }
