use Rattle.abt_audit.proofs.Contradiction.{ports_are_contradicted}
use Rattle.abt_audit.proofs.SourcesContradicted.{sources_are_contradicted}
use Rattle.abt_audit.proofs.laws.mismatches_are_contradicted.Goals as goal

pub returns : goal.returns
returns c = record { ports = ports_are_contradicted; sources = sources_are_contradicted }
