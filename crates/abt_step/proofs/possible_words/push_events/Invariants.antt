-- The text so far, and that of what is left, are the whole text.
use Rattle.std.proofs.Common.{◌≡◌, ◌++◌, drop, string_bytes}
use Rattle.abt_step.specs.PossibleWords.{events_text}
use Rattle.abt_step.proofs.possible_words.push_events.Given as goal

abbrev pub invariant-loop-event : goal.invariant-loop-event
invariant-loop-event l = string_bytes l.text ++ events_text (drop l.event-index l.events) ≡ string_bytes l.initial.text ++ events_text l.events
