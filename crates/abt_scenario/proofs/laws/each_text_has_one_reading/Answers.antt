use Rattle.abt_scenario.proofs.OneAnswer.{one_reading}
use Rattle.abt_scenario.proofs.laws.each_text_has_one_reading.Goals as goal

pub returns : goal.returns
returns c = record { reading = one_reading }
