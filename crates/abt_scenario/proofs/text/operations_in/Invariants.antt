-- The operations so far, and those of the texts that are left, are the operations.
use Rattle.std.proofs.Common.{◌≡◌, ◌+◌, ◌≤◌, drop}
use Rattle.toml.specs.View.{items_view}
use Rattle.abt_scenario.specs.Scenarios.{operations_from}
use Rattle.abt_scenario.specs.Values.{texts_among}
use Rattle.abt_scenario.proofs.Lists.{with_rest}
use Rattle.abt_scenario.proofs.text.operations_in.Given as goal

abbrev pub invariant-loop-value : goal.invariant-loop-value
invariant-loop-value l =
    (with_rest l.operations (operations_from l.number (texts_among (items_view (drop l.value-index l.values)))) ≡ operations_from 1 (texts_among (items_view l.values)))
    × (l.number ≤ l.value-index + 1)
