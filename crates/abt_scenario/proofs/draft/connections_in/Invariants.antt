-- The connections so far, and those of the tables that are left, are the connections.
use Rattle.std.proofs.Common.{◌≡◌, drop, map}
use Rattle.toml.specs.View.{table_view}
use Rattle.abt_scenario.specs.Walk.{connections_in, scripts_seen}
use Rattle.abt_scenario.proofs.Lists.{with_others}
use Rattle.abt_scenario.proofs.draft.connections_in.Given as goal

abbrev pub invariant-loop-table : goal.invariant-loop-table
invariant-loop-table l =
    with_others l.conns.items (scripts_seen l.scripts.items) (connections_in (map (λ table. table_view table.now) (drop l.table-index l.tables)))
    ≡ connections_in (map (λ table. table_view table.now) l.tables)
