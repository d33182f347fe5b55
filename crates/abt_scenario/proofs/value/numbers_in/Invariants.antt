-- The numbers so far, and those of the values that are left, are the numbers.
use Rattle.std.proofs.Common.{◌≡◌, ◌^◌, drop}
use Rattle.toml.specs.View.{items_view}
use Rattle.abt_scenario.specs.Values.{numbers_in}
use Rattle.abt_scenario.proofs.Lists.{with_rest}
use Rattle.abt_scenario.proofs.value.numbers_in.Given as goal

abbrev pub invariant-loop-value : goal.invariant-loop-value
invariant-loop-value l =
    with_rest l.numbers.items (numbers_in (2 ^ 63) l.key (items_view (drop l.value-index l.values))) ≡ numbers_in (2 ^ 63) l.key (items_view l.values)
