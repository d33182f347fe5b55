use Rattle.abt_model.proofs.Targets.{event_there, target_there}
use Rattle.abt_model.proofs.target_laws.each_event_has_one_target.Goals as goal

pub returns : goal.returns
returns c = record { event = event_there; target = target_there }
