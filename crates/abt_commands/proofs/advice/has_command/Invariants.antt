-- The scripts so far have no command.
use Rattle.std.proofs.Common.{◌≡◌, drop}
use Rattle.abt_commands.specs.Advice.{has_command}
use Rattle.abt_commands.proofs.advice.has_command.Given as goal

abbrev pub invariant-loop-script : goal.invariant-loop-script
invariant-loop-script l = has_command (drop l.script-index l.scripts) ≡ has_command l.initial.scripts
