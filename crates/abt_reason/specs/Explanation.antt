-- The explanation of a run (docs/EXPLAIN.md).
use Rattle.std.specs.Prelude.{◌≡◌, ℕ, ◌+◌, List, [], ◌∷◌, codes, Option, None, Some, slice_get}
use Rattle.abt_net.specs.Topology.{Topology}
use Rattle.abt_model.specs.declared.event.Event.{Event}
use Rattle.abt_model.specs.declared.outcome.Outcome.{Outcome}
use Rattle.abt_model.specs.Past.{Past}
use Rattle.abt_model.specs.Outcomes.{outcome_of, after_event}
use Rattle.abt_format.specs.OutcomeText.{outcome_text}
use Rattle.abt_text.specs.Text.{Text, ◌⋅◌, newline, decimal}
use Rattle.abt_model.specs.declared.trace.Trace.{Trace}
use Rattle.abt_model.specs.Traces.{IsTrace}
use Rattle.abt_format.specs.EventText.{event_text}
use Rattle.abt_reason.specs.declared.grounds.Grounds.{Grounds}
use Rattle.abt_reason.specs.Ending.{ending_text}
use Rattle.abt_reason.specs.Grounds.{grounds_of}
use Rattle.abt_reason.specs.Reasons.{reason_text}

-- the line of the file in which an event's text stands, if it is known
abbrev pub place_text : Option ℕ → Text
place_text None = []
place_text (Some line) = codes " line " ⋅ decimal line

-- an event of a number: its place, its own text, its outcome, and why
abbrev pub told_text : ℕ → Option ℕ → Event → Grounds → Outcome → Text
told_text number place event grounds outcome =
    decimal number ⋅ place_text place ⋅ codes " " ⋅ event_text event ⋅ codes ": " ⋅ outcome_text outcome ⋅ reason_text grounds outcome ⋅ newline

-- an event after a past; numbers count from 1
abbrev pub event_line : Topology → Past → (places : List ℕ) → (index : ℕ) → Event → Text
event_line net past places index event =
    told_text (index + 1) (slice_get places index) event (grounds_of net past event) (outcome_of net past event)

-- a line for each event, each after those before it
abbrev pub event_lines : Topology → Past → (places : List ℕ) → (index : ℕ) → List Event → Text
event_lines net past places index [] = []
event_lines net past places index (event ∷ events) =
    event_line net past places index event ⋅ event_lines net (after_event net past event) places (index + 1) events

-- The text explains the run of these events: a line for each, and who holds what in the end.
pub record IsExplanation (net : Topology) (places : List ℕ) (events : List Event) (text : Text) : Type 0 where
  pub trace : Trace
  pub is_trace : IsTrace net events trace
  pub is : text ≡ event_lines net [] places 0 events ⋅ ending_text net.conns trace
