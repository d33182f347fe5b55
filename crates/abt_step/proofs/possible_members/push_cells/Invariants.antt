-- The tokens so far, and those of what is left, are all of them; what stood before stays.
use Rattle.std.proofs.Common.{◌≡◌, ◌++◌, drop}
use Rattle.abt_step.specs.PossibleMembers.{cell_tokens}
use Rattle.abt_step.proofs.possible_members.push_cells.Given as goal

abbrev pub invariant-loop-windows : goal.invariant-loop-windows
invariant-loop-windows l =
    (l.object.before ≡ l.initial.object.before)
    × (l.object.tokens ++ cell_tokens (drop l.windows-index l.cells) ≡ l.initial.object.tokens ++ cell_tokens l.cells)
