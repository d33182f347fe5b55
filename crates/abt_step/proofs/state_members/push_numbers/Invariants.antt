-- The tokens so far, and those of the numbers that are left, are all of them; what stood before stays.
use Rattle.std.proofs.Common.{◌≡◌, ◌++◌, drop}
use Rattle.abt_step.specs.StateMembers.{number_tokens}
use Rattle.abt_step.proofs.state_members.push_numbers.Given as goal

abbrev pub invariant-loop-number : goal.invariant-loop-number
invariant-loop-number l =
    (l.object.before ≡ l.initial.object.before)
    × (l.object.tokens ++ number_tokens (drop l.number-index l.numbers) ≡ l.initial.object.tokens ++ number_tokens l.numbers)
