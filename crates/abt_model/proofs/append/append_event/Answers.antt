use Rattle.std.proofs.Common.{[]}
use Rattle.abt_model.proofs.Runs.{facts_from_push, outcomes_from_push}
use Rattle.abt_model.proofs.append.append_event.Goals as goal

pub returns : goal.returns
returns c = record { facts = λ net events event. facts_from_push net [] events event; outcomes = λ net events event. outcomes_from_push net [] events event }
