-- After each move there are events that are what the processes did.
use Rattle.abt_processes.proofs.Running.{runs_are_events}
use Rattle.abt_processes.proofs.laws.runs_are_events.Goals as goal

pub returns : goal.returns
returns c = runs_are_events
