-- The text so far, and the lines of the events that are left, are the whole text.
use Rattle.std.proofs.Common.{◌≡◌, ◌++◌, drop, string_bytes}
use Rattle.abt_scenario.specs.ScenarioText.{event_lines}
use Rattle.abt_scenario.proofs.writing.push_events.Given as goal

abbrev pub invariant-loop-event : goal.invariant-loop-event
invariant-loop-event l =
    string_bytes l.text ++ event_lines (drop l.event-index l.events) ≡ string_bytes l.initial.text ++ event_lines l.events
