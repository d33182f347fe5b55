-- The explanation of a run as JSON: an object a line (docs/FORMATS.md, "JSON").
use Rattle.std.specs.Prelude.{◌≡◌, ℕ, ◌+◌, true, List, [], ◌∷◌, ◌++◌, codes, Option, None, Some, slice_get}
use Rattle.json.specs.Token.{Token}
use Rattle.abt_model.specs.Outcomes.{outcome_of, after_event}
use Rattle.abt_model.specs.Past.{Past}
use Rattle.abt_model.specs.declared.event.Event.{Event}
use Rattle.abt_model.specs.declared.outcome.Outcome.{Outcome}
use Rattle.abt_net.specs.Topology.{Topology}
use Rattle.abt_format.specs.OutcomeText.{outcome_text}
use Rattle.abt_text.specs.Text.{Text, ◌⋅◌}
use Rattle.abt_model.specs.declared.trace.Trace.{Trace}
use Rattle.abt_model.specs.Traces.{IsTrace}
use Rattle.abt_format.specs.EventText.{event_text}
use Rattle.abt_model.specs.declared.outcome.Cause.TheVariants.{NotSent}
use Rattle.abt_model.specs.declared.outcome.Outcome.TheVariants.{NotEnabled}
use Rattle.abt_reason.specs.declared.grounds.Grounds.{Grounds}
use Rattle.abt_reason.specs.declared.sighting.Sighting.{Sighting}
use Rattle.abt_reason.specs.declared.sighting.Sought.{Sought}
use Rattle.abt_reason.specs.Grounds.{grounds_of}
use Rattle.abt_reason.specs.Reasons.{reason_text}
use Rattle.abt_entry.specs.ObjectMembers.{text_member, number_member}
use Rattle.abt_json.specs.Kinds.{kind_object}
use Rattle.abt_json.specs.Objects.{outcome_members, end_objects}

-- the line of the file in which an event's text stands, if it is known
abbrev pub line_members : Option ℕ → List Token
line_members None = []
line_members (Some line) = number_member (codes "line") line

-- a message lies at a hop, and an event takes it on from there, by its text
abbrev pub lies_members : (at : ℕ) → (next : Event) → List Token
lies_members at next = number_member (codes "lies_at") at ++ text_member (codes "comes_next") (event_text next)

-- the same, if it lies anywhere
abbrev pub sighting_members : Option Sighting → List Token
sighting_members None = []
sighting_members (Some sighting) = lies_members sighting.at sighting.next

-- the same of the message that wasn't where an event looked for it
abbrev pub sought_members : Option Sought → Outcome → List Token
sought_members (Some sought) (NotEnabled NotSent) = sighting_members sought.sighting
sought_members sought outcome = []

-- an event of a number: its line, its own text, its outcome, where its message lies, and the outcome in words with its reason
abbrev pub explained_members : ℕ → Option ℕ → Event → Grounds → Outcome → List Token
explained_members number line event grounds outcome =
    number_member (codes "event") number ++ line_members line ++ text_member (codes "text") (event_text event) ++ outcome_members outcome
    ++ sought_members grounds.sought outcome ++ text_member (codes "words") (outcome_text outcome ⋅ reason_text grounds outcome)

abbrev pub explained_object : ℕ → Option ℕ → Event → Grounds → Outcome → Text
explained_object number line event grounds outcome = kind_object (codes "event") (explained_members number line event grounds outcome)

-- an event after a past; numbers count from 1
abbrev pub event_object : Topology → Past → (lines : List ℕ) → (index : ℕ) → Event → Text
event_object net past lines index event =
    explained_object (index + 1) (slice_get lines index) event (grounds_of net past event) (outcome_of net past event)

-- an object for each event, each after those before it
abbrev pub event_objects : Topology → Past → (lines : List ℕ) → (index : ℕ) → List Event → Text
event_objects net past lines index [] = []
event_objects net past lines index (event ∷ events) =
    event_object net past lines index event ⋅ event_objects net (after_event net past event) lines (index + 1) events

-- The text explains the run of these events, an object for each, and then says how the net stands, which is safe.
pub record IsExplainedJson (net : Topology) (lines : List ℕ) (events : List Event) (text : Text) : Type 0 where
  pub trace : Trace
  pub is_trace : IsTrace net events trace
  pub is_safe : trace.safe ≡ true
  pub is : text ≡ event_objects net [] lines 0 events ⋅ end_objects trace
