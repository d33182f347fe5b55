use Rattle.abt_serving.proofs.Arriving.{every_emission_arrives}
use Rattle.abt_serving.proofs.laws.cells_arrive_at_once.Goals as goal

pub returns : goal.returns
returns c = every_emission_arrives
