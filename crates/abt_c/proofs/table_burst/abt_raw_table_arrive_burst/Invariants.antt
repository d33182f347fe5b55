use Rattle.std.proofs.Common.{◌≡◌, ℕ, ◌≤◌}
use Rattle.std.specs.Prelude.{slice_index}
use Rattle.abt_c.specs.Tables.{HasHead, IsTable}
use Rattle.abt_c.specs.TableArrivals.{AreArrivals}
use Rattle.abt_c.proofs.table_burst.abt_raw_table_arrive_burst.Given as goal

abbrev pub invariant-loop-i : goal.invariant-loop-i
invariant-loop-i l = record {
  head : HasHead l.table;
  state : IsTable l.initial.table → IsTable l.table;
  judged : AreArrivals l.initial.table l.cells l.outcomes l.i l.table;
  rest : (k : ℕ) → l.i ≤ k → slice_index l.outcomes k ≡ slice_index l.initial.outcomes k;
}
