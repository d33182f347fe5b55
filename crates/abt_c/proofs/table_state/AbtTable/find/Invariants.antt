use Rattle.std.proofs.Common.{◌≤◌}
use Rattle.abt_c.specs.Tables.{IsTable}
use Rattle.abt_c.proofs.TableLemmas.{HasWalked}
use Rattle.abt_c.proofs.table_state.AbtTable.find.Given as goal

abbrev pub invariant-loop-at : goal.invariant-loop-at
invariant-loop-at l = record {
  low : l.limit ≤ l.self.count;
  walked : IsTable l.self → HasWalked l.self l.vc l.at l.limit;
}

abbrev pub decreases-loop-at : goal.decreases-loop-at
decreases-loop-at l = l.limit
