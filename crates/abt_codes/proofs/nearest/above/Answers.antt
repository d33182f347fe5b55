-- What is at least the quotient, rounded up, is at least the quotient.
use Rattle.std.proofs.Common.{◌∙◌}
use Rattle.abt_codes.proofs.Quotients.{above_quotient}
use Rattle.abt_codes.proofs.nearest.above.Goals as goal

pub returns-in-Ok : goal.returns-in-Ok
returns-in-Ok c =
    above_quotient c.args.quantity c.at_least.result c.in-Ok.units c.requires (c.in-Ok.ensures.1 ∙ c.div_ceil.ensures)
    c.at_least.ensures.none c.at_least.ensures.value
