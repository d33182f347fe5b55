-- The texts so far, and those of the values that are left, are the texts.
use Rattle.std.proofs.Common.{◌≡◌, drop, map}
use Rattle.toml.specs.View.{items_view}
use Rattle.abt_scenario.specs.Values.{texts_in}
use Rattle.abt_scenario.proofs.Lists.{with_rest}
use Rattle.abt_scenario.proofs.value.texts_in.Given as goal

abbrev pub invariant-loop-value : goal.invariant-loop-value
invariant-loop-value l =
    with_rest (map (λ text. text.now) l.texts.items) (texts_in l.key (items_view (drop l.value-index l.values))) ≡ texts_in l.key (items_view l.values)
