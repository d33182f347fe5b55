-- The tokens so far, and those of what is left, are all of them; what stood before stays.
use Rattle.std.proofs.Common.{◌≡◌, ◌++◌, drop}
use Rattle.abt_step.specs.PossibleMembers.{window_tokens}
use Rattle.abt_step.proofs.possible_members.push_windows.Given as goal

abbrev pub invariant-loop-window : goal.invariant-loop-window
invariant-loop-window l =
    (l.object.before ≡ l.initial.object.before)
    × (l.object.tokens ++ window_tokens (drop l.window-index l.windows) ≡ l.initial.object.tokens ++ window_tokens l.windows)
