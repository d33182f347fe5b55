-- Each line is read as what it says.
use Rattle.abt_live_laws.proofs.OctetsRead as octets
use Rattle.abt_live_laws.proofs.law.octets_are_read.Goals as goal

pub returns-clause-steps : goal.returns-clause-steps
returns-clause-steps c = octets.steps_are_read

pub returns-clause-deeds : goal.returns-clause-deeds
returns-clause-deeds c = octets.deeds_are_read
