use Rattle.std.proofs.Common.{arith, refl}
use Rattle.abt_c.proofs.TableLemmas.{table_begins}
use Rattle.abt_c.proofs.table_state.AbtTable.begin.Goals as goal

pub returns-clause-state : goal.returns-clause-state
returns-clause-state c = table_begins _ (refl, (refl, omega arith, c.requires), omega arith) refl refl refl
