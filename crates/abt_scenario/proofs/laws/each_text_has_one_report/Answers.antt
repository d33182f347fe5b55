use Rattle.abt_scenario.proofs.OneAnswer.{one_report}
use Rattle.abt_scenario.proofs.laws.each_text_has_one_report.Goals as goal

pub returns : goal.returns
returns c = record { report = one_report }
