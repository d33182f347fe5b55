-- Events that come to nothing: they aren't enabled, or are cells that wait for an answer.
use Rattle.std.specs.Prelude.{ℕ, ◌+◌, ◌==◌, ◌++◌, List, [], ◌∷◌, Option, None, Some, codes, take, length, nat_lt, if◌then◌else◌}
use Rattle.abt_format.specs.OutcomeText.{outcome_text}
use Rattle.abt_model.specs.Outcomes.{outcome_of, after_event}
use Rattle.abt_model.specs.Past.{Past}
use Rattle.abt_model.specs.declared.event.Event.{Event}
use Rattle.abt_model.specs.declared.event.Event.TheVariants.{Emit}
use Rattle.abt_model.specs.declared.outcome.Outcome.{Outcome}
use Rattle.abt_model.specs.declared.outcome.Outcome.TheVariants.{EmitRefused, NotEnabled}
use Rattle.abt_net.specs.Topology.{Topology}
use Rattle.abt_reason.specs.Grounds.{grounds_of}
use Rattle.abt_reason.specs.Reasons.{reason_text, sighting_text}
use Rattle.abt_reason.specs.Sightings.{lying, sought_at}
use Rattle.abt_reason.specs.declared.grounds.Grounds.{Grounds}
use Rattle.abt_reason.specs.declared.sighting.Sighting.{Sighting}
use Rattle.abt_reason.specs.declared.sighting.Sought.{Sought}
use Rattle.abt_shaper.specs.declared.fault.ShapeFault.TheVariants.{Zero}
use Rattle.abt_text.specs.Text.{Text, ◌⋅◌, decimal}
use Rattle.abt_world.specs.Readings.{asked_for, progress_in}
use Rattle.abt_world.specs.declared.progress.Progress.{Progress}
use Rattle.abt_check.specs.declared.unable.Look.{Look}
use Rattle.abt_check.specs.declared.unable.Look.TheVariants.{Wide}

-- an event that comes to nothing: its place among the events, from 0, and what is said of it
pub record UnableView : Type 0 where
  pub index : ℕ
  pub text : Text

-- the event of a number, from 1, and its outcome with the reason
abbrev pub said_of : (number : ℕ) → Grounds → Outcome → Text
said_of number grounds outcome = codes "event " ⋅ decimal number ⋅ codes " is " ⋅ outcome_text outcome ⋅ reason_text grounds outcome

-- the same of a cell, and where the message lies whose answer its source waits for
abbrev pub waiting_text : (number : ℕ) → Grounds → Outcome → Sought → Text
waiting_text number grounds outcome sought = said_of number grounds outcome ⋅ sighting_text sought.seq sought.sighting

-- a message that lies there, if it asks for a rate, its floor and ask being these
abbrev pub raising : (seq : ℕ) → (terms : Option (ℕ × ℕ)) → Option Sighting → Option Sought
raising seq None lies = None
raising seq (Some terms) lies = if terms.1 == 0 then None else sought_at seq lies

-- the message whose answer a source waits for, if that asks for a rate, and where it lies
abbrev pub pending_of : Topology → Past → (c : ℕ) → (awaited : Option ℕ) → Option Sought
pending_of net past c None = None
pending_of net past c (Some seq) = raising seq (asked_for net past c seq) (lying net past c seq)

abbrev pub pending_at : Topology → Past → (c : ℕ) → Option Progress → Option Sought
pending_at net past c None = None
pending_at net past c (Some progress) = pending_of net past c progress.awaited

-- that of the source of a cell that is to leave
abbrev pub pending : Topology → Past → Event → Option Sought
pending net past (Emit c now) = pending_at net past c (progress_in net past c)
pending net past event = None

-- a cell that doesn't leave at rate 0 while its source waits for an answer, if one looks for such too
abbrev pub waiting_at : Look → (index : ℕ) → Grounds → Option Sought → List UnableView
waiting_at Wide index grounds (Some sought) =
    record { index = index; text = waiting_text (index + 1) grounds (EmitRefused Zero) sought } ∷ []
waiting_at look index grounds pending = []

-- the event at a place, if it comes to nothing
abbrev pub unable_at : Look → (index : ℕ) → Grounds → Option Sought → Outcome → List UnableView
unable_at look index grounds pending (NotEnabled cause) =
    record { index = index; text = said_of (index + 1) grounds (NotEnabled cause) } ∷ []
unable_at look index grounds pending (EmitRefused Zero) = waiting_at look index grounds pending
unable_at look index grounds pending outcome = []

-- the events that come to nothing, each after those before it
abbrev pub unable_in : Look → Topology → Past → (index : ℕ) → List Event → List UnableView
unable_in look net past index [] = []
unable_in look net past index (event ∷ events) =
    unable_at look index (grounds_of net past event) (pending net past event) (outcome_of net past event)
    ++ unable_in look net (after_event net past event) (index + 1) events

-- some more behind those before, if there is room for them
abbrev pub with_more : (most : ℕ) → (before more : List UnableView) → List UnableView
with_more most before more = if nat_lt (length before) most then before ++ more else before
