-- The values so far are texts.
use Rattle.std.proofs.Common.{◌≡◌, drop}
use Rattle.toml.specs.View.{items_view}
use Rattle.abt_scenario.specs.Values.{are_texts}
use Rattle.abt_scenario.proofs.value.are_texts.Given as goal

abbrev pub invariant-loop-value : goal.invariant-loop-value
invariant-loop-value l = are_texts (items_view (drop l.value-index l.values)) ≡ are_texts (items_view l.values)
