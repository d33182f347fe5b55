-- There is a file for each name so far.
use Rattle.std.proofs.Common.{◌≡◌, length}
use Rattle.abt_commands.proofs.audit.open_all.Given as goal

abbrev pub invariant-loop-name : goal.invariant-loop-name
invariant-loop-name g l = length l.files.items ≡ l.name-index
