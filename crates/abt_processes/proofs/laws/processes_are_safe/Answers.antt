-- After each move the headline holds of the processes themselves.
use Rattle.abt_processes.proofs.Running.{processes_are_safe}
use Rattle.abt_processes.proofs.laws.processes_are_safe.Goals as goal

pub returns : goal.returns
returns c = processes_are_safe
