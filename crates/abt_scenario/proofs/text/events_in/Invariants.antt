-- The events so far, and those of the texts that are left, are the events.
use Rattle.std.proofs.Common.{◌≡◌, ◌+◌, ◌≤◌, drop}
use Rattle.toml.specs.View.{items_view}
use Rattle.abt_scenario.specs.Scenarios.{events_from}
use Rattle.abt_scenario.specs.Values.{texts_among}
use Rattle.abt_scenario.proofs.Lists.{with_rest}
use Rattle.abt_scenario.proofs.text.events_in.Given as goal

abbrev pub invariant-loop-value : goal.invariant-loop-value
invariant-loop-value l =
    (with_rest l.events (events_from l.number (texts_among (items_view (drop l.value-index l.values)))) ≡ events_from 1 (texts_among (items_view l.values)))
    × (l.number ≤ l.value-index + 1)
