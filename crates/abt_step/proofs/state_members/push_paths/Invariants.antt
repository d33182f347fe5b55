-- The tokens so far, and those of the paths that are left, are all of them; what stood before stays.
use Rattle.std.proofs.Common.{◌≡◌, ◌++◌, drop}
use Rattle.abt_step.specs.StateMembers.{path_arrays}
use Rattle.abt_step.proofs.state_members.push_paths.Given as goal

abbrev pub invariant-loop-along : goal.invariant-loop-along
invariant-loop-along l =
    (l.object.before ≡ l.initial.object.before)
    × (l.object.tokens ++ path_arrays (drop l.along-index l.held) ≡ l.initial.object.tokens ++ path_arrays l.held)
