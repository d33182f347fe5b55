-- The scripts so far, and those of the connections that are left, are the scripts.
use Rattle.std.proofs.Common.{◌≡◌, drop}
use Rattle.abt_scenario.specs.Scenarios.{scripts_from}
use Rattle.abt_scenario.specs.Walk.{scripts_seen}
use Rattle.abt_scenario.proofs.Lists.{with_rest}
use Rattle.abt_scenario.proofs.text.scripts_in.Given as goal

abbrev pub invariant-loop-index : goal.invariant-loop-index
invariant-loop-index l =
    with_rest l.read (scripts_from l.index (scripts_seen (drop l.index l.scripts))) ≡ scripts_from 0 (scripts_seen l.scripts)
