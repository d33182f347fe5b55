-- The text so far, and the numbers that are left, are the whole text.
use Rattle.std.proofs.Common.{◌≡◌, ◌++◌, drop, string_bytes}
use Rattle.abt_scenario.specs.ScenarioText.{numbers_from}
use Rattle.abt_scenario.proofs.writing.push_capacities.Given as goal

abbrev pub invariant-loop-index : goal.invariant-loop-index
invariant-loop-index l =
    string_bytes l.text ++ numbers_from l.index (drop l.index l.capacities) ≡ string_bytes l.initial.text ++ numbers_from 0 l.capacities
