-- The commands so far, and those of the texts that are left, are the commands.
use Rattle.std.proofs.Common.{◌≡◌, ◌+◌, drop, map}
use Rattle.abt_scenario.specs.Scenarios.{commands_from}
use Rattle.abt_scenario.proofs.Lists.{with_rest}
use Rattle.abt_scenario.proofs.text.commands_in.Given as goal

abbrev pub invariant-loop-place : goal.invariant-loop-place
invariant-loop-place l =
    with_rest l.commands (commands_from l.connection (l.place + 1) (map (λ text. text.now) (drop l.place l.texts))) ≡ commands_from l.connection 1 (map (λ text. text.now) l.texts)
