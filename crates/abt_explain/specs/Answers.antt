-- What sources heard of the requests whose answers they waited for: who was granted what.
use Rattle.std.specs.Prelude.{ℕ, ◌+◌, List, [], ◌∷◌, codes, option_map}
use Rattle.abt_model.specs.declared.event.Event.{Event}
use Rattle.abt_model.specs.declared.event.Event.TheVariants as event
use Rattle.abt_model.specs.declared.outcome.Heard.{Heard}
use Rattle.abt_model.specs.declared.outcome.Heard.TheVariants.{Raised, Refused, Ignored}
use Rattle.abt_model.specs.declared.outcome.Outcome.{Outcome}
use Rattle.abt_model.specs.declared.outcome.Outcome.TheVariants.{Told}
use Rattle.abt_model.specs.Outcomes.{after_event, outcome_of}
use Rattle.abt_model.specs.Past.{Past}
use Rattle.abt_net.specs.Topology.{Topology}
use Rattle.abt_reason.specs.Grounds.{number}
use Rattle.abt_text.specs.Text.{Text, ◌⋅◌, decimal, newline}
use Rattle.abt_format.specs.Measures.{cells_text}
use Rattle.abt_world.specs.Readings.{asked_for}

-- 1 for a yes to the request whose answer a source waited for
abbrev pub granted_by : Outcome → ℕ
granted_by (Told Raised) = 1
granted_by outcome = 0

-- 1 for a no to it
abbrev pub refused_by : Outcome → ℕ
refused_by (Told Refused) = 1
refused_by outcome = 0

-- the asked rate of the request whose answer an event tells a source; 0 if it tells none
abbrev pub units_asked : Topology → Past → Event → ℕ
units_asked net past (event.Told c seq granted) = number (option_map (λ terms. terms.1) (asked_for net past c seq))
units_asked net past other = 0

abbrev pub verdict_text : (at c seq units : ℕ) → (verdict : Text) → Text
verdict_text at c seq units verdict =
    codes "event " ⋅ decimal at ⋅ codes ": connection " ⋅ decimal c ⋅ codes " is " ⋅ verdict ⋅ codes " " ⋅ cells_text units
    ⋅ codes " cells/s by request " ⋅ decimal seq ⋅ newline

-- the line of an answer, by what its source made of it; nothing if it didn't wait for it
abbrev pub heard_text : (at c seq units : ℕ) → Heard → Text
heard_text at c seq units Raised = verdict_text at c seq units (codes "granted")
heard_text at c seq units Refused = verdict_text at c seq units (codes "refused")
heard_text at c seq units Ignored = []

-- the line of the event of a number; nothing for one that tells no source an answer
abbrev pub answer_text : (at : ℕ) → Event → (units : ℕ) → Outcome → Text
answer_text at (event.Told c seq granted) units (Told heard) = heard_text at c seq units heard
answer_text at other units outcome = []

-- an event after a past; numbers count from 1
abbrev pub answer_line : Topology → Past → (index : ℕ) → Event → Text
answer_line net past index event = answer_text (index + 1) event (units_asked net past event) (outcome_of net past event)

-- a line for each answer, each after the events before it
abbrev pub answer_lines : Topology → Past → (index : ℕ) → List Event → Text
answer_lines net past index [] = []
answer_lines net past index (event ∷ events) =
    answer_line net past index event ⋅ answer_lines net (after_event net past event) (index + 1) events
