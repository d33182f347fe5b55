-- The tokens so far, and those of what is left, are all of them; what stood before stays.
use Rattle.std.proofs.Common.{◌≡◌, ◌++◌, drop}
use Rattle.abt_step.specs.PossibleMembers.{event_strings}
use Rattle.abt_step.proofs.possible_members.push_events.Given as goal

abbrev pub invariant-loop-event : goal.invariant-loop-event
invariant-loop-event l =
    (l.object.before ≡ l.initial.object.before)
    × (l.object.tokens ++ event_strings (drop l.event-index l.events) ≡ l.initial.object.tokens ++ event_strings l.events)
