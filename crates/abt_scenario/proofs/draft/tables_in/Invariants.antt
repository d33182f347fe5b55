-- The tables so far, and those of the values that are left, are the tables.
use Rattle.std.proofs.Common.{◌≡◌, drop, map}
use Rattle.toml.specs.View.{items_view, table_view}
use Rattle.abt_scenario.specs.Walk.{tables_in}
use Rattle.abt_scenario.proofs.Lists.{with_rest}
use Rattle.abt_scenario.proofs.draft.tables_in.Given as goal

abbrev pub invariant-loop-value : goal.invariant-loop-value
invariant-loop-value l =
    with_rest (map (λ table. table_view table.now) l.tables.items) (tables_in (items_view (drop l.value-index l.values))) ≡ tables_in (items_view l.values)
