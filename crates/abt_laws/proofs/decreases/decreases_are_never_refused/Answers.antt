use Rattle.abt_laws.proofs.EveryDecrease.{every_decrease_unshut, every_decrease_passes}
use Rattle.abt_laws.proofs.decreases.decreases_are_never_refused.Goals as goal

pub returns : goal.returns
returns c = record { shut = every_decrease_unshut; passes = every_decrease_passes }
