use Rattle.abt_rate.proofs.Rates.{ilog2_exponent}
use Rattle.abt_rate.proofs.rate.exponent_at.Goals as goal

pub returns : goal.returns
returns c = ilog2_exponent _ _ c.requires.least c.requires.greatest c.ilog2.ensures.power_le c.ilog2.ensures.next_power_gt
