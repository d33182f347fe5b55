use Rattle.abt_history.proofs.Ending.{ended_woven, ended_rates}
use Rattle.abt_history.proofs.laws.ended_histories_are_woven.Goals as goal

pub returns : goal.returns
returns c = record { woven = ended_woven; rates = ended_rates }
