use Rattle.std.proofs.Common.{arith, ◌<◌}
use Rattle.abt_rate.proofs.Rates.{spacing_least, spacing_range}
use Rattle.abt_rate.proofs.rate.Rate.spacing.Goals as goal

pub returns-clause-least : goal.returns-clause-least
returns-clause-least c =
    let positive : 0 < c.self.inside.units = omega arith in
    rw (← c.self.view_is, c.div_ceil.ensures) (spacing_least c.self.inside.units positive)

pub returns-clause-range : goal.returns-clause-range
returns-clause-range c =
    let positive : 0 < c.self.inside.units = omega arith in
    rw c.div_ceil.ensures (spacing_range c.self.inside.units _ c.self.invariant positive (spacing_least c.self.inside.units positive))
