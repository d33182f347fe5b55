-- What is at most the quotient, rounded down, is at most the quotient.
use Rattle.abt_codes.proofs.Quotients.{below_all, below_quotient}
use Rattle.abt_codes.proofs.nearest.below.Goals as goal

pub returns-in-Ok : goal.returns-in-Ok
returns-in-Ok c = below_quotient c.args.quantity c.at_most.result c.in-Ok.units c.requires c.in-Ok.ensures.1 c.at_most.ensures

pub returns-in-Err : goal.returns-in-Err
returns-in-Err c = below_all c.args.quantity c.at_most-in-Err.result c.requires c.in-Err.ensures c.at_most-in-Err.ensures
