-- A fault that isn't want of memory is the first one of the lists.
use Rattle.std.proofs.Common.{rules, refl, inr, ◌≢◌}
use Rattle.abt_net.specs.declared.fault.NetFault.TheVariants.{Memory}
use Rattle.abt_scenario.proofs.text.net_of.Goals as goal

pub returns-in_default : goal.returns-in_default
returns-in_default c =
    let other : c.in-Err.fault ≢ Memory = search rules in
    record { ok = tt; err = inr (c.in-Err.fault, (c.in-Err.ensures.err c.in-Err.fault other).0 refl, refl) }
