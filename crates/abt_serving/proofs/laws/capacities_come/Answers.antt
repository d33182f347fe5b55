use Rattle.abt_serving.proofs.Capacities.{capacity_comes}
use Rattle.abt_serving.proofs.laws.capacities_come.Goals as goal

pub returns : goal.returns
returns c = capacity_comes
