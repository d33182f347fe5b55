use Rattle.std.proofs.Common.{rules}
use Rattle.abt_check.proofs.FaultLines.{fault_told}
use Rattle.abt_check.proofs.testing.misfit_of.Goals as goal

pub returns : goal.returns
returns c = fault_told c.args.mark.now c.args.source.now c.at_item-at.result c.args.fault c.format.result (search rules)
