-- The event that the next entry of a port can be, by journals alone. Entries of sources are listed with the newest first.
use Rattle.std.specs.Prelude.{◌≡◌, ℕ, ◌==◌, ◌&&◌, ◌||◌, not, Bool, true, false, List, if◌then◌else◌, Option, None, Some, option_map}
use Rattle.abt_cell.specs.Channel.{Channel}
use Rattle.abt_model.specs.declared.event.Event.{Event}
use Rattle.abt_model.specs.declared.event.Event.TheVariants.{Arrive, Request, Answer}
use Rattle.abt_model.specs.declared.target.HopEvent.{HopEvent}
use Rattle.abt_model.specs.declared.target.HopEvent.TheVariants as hop
use Rattle.abt_model.specs.declared.target.Target.{Target}
use Rattle.abt_model.specs.declared.target.Target.TheVariants.{Source, Hop}
use Rattle.abt_model.specs.Targets.{target_of}
use Rattle.abt_journal.specs.declared.input.PortInput.{PortInput}
use Rattle.abt_journal.specs.declared.input.PortInput.TheVariants.{Request as RequestIn, Answer as AnswerIn, Arrive as ArriveIn, Capacity as CapacityIn}
use Rattle.abt_model.specs.declared.entry.SourceEntry.{SourceEntry}
use Rattle.abt_model.specs.declared.entry.SourceEntry.TheVariants.{Sent, Arrived as ArrivedAt}
use Rattle.abt_weave.specs.Asked.{floor_in, ask_in}
use Rattle.abt_weave.specs.Projections.{is_told_by}

-- whether the entry says that this step was sent, and which cell it says arrived there
abbrev pub is_sent_at : (place : ℕ) → Option SourceEntry → Bool
is_sent_at place (Some (Sent named)) = named == place
is_sent_at place other = false

abbrev pub cell_arrived_at : (place : ℕ) → Option SourceEntry → Option ℕ
cell_arrived_at place (Some (ArrivedAt cell named)) = if named == place then Some cell else None
cell_arrived_at place other = None

-- the event of a connection that brings this to the port at a hop, given the place of its step
abbrev pub event_by : (conn hop place : ℕ) → PortInput → List SourceEntry → Option SourceEntry → Option Event
event_by conn hop place (RequestIn request) placed next =
    if request.floor == floor_in placed request.seq && request.ask == ask_in placed request.seq && (not (hop == 1) || is_sent_at place next)
    then Some (Request conn hop request.seq) else None
event_by conn hop place (AnswerIn answer) placed next =
    if answer.terms.floor == floor_in placed answer.terms.seq && answer.terms.ask == ask_in placed answer.terms.seq
    then Some (Answer conn hop answer.terms.seq answer.granted) else None
event_by conn hop place (ArriveIn vc at) placed next =
    if hop == 1 then option_map (λ cell. Arrive conn cell at) (cell_arrived_at place next) else None
event_by conn hop place (CapacityIn capacity) placed next = None

-- these are the rates that were asked for under the number of a message
abbrev pub AreTermsOf : PortInput → (floor ask : ℕ) → List SourceEntry → Type 0
AreTermsOf (RequestIn request) floor ask placed = (floor ≡ floor_in placed request.seq) × (ask ≡ ask_in placed request.seq)
AreTermsOf (AnswerIn answer) floor ask placed = (floor ≡ floor_in placed answer.terms.seq) × (ask ≡ ask_in placed answer.terms.seq)
AreTermsOf other floor ask placed = Unit {0}

-- the channel that an input is about, if it is about one
abbrev pub channel_of : PortInput → Option Channel
channel_of (RequestIn request) = Some request.vc
channel_of (AnswerIn answer) = Some answer.terms.vc
channel_of (ArriveIn vc at) = Some vc
channel_of (CapacityIn capacity) = None

-- whether an event is a command of this source, or an answer that it is told
abbrev pub is_at_source : ℕ → Target → Bool
is_at_source c (Source d event) = d == c
is_at_source c other = false

abbrev pub is_own_of : ℕ → Event → Bool
is_own_of c event = is_at_source c (target_of event)

abbrev pub is_told_in : Target → Bool
is_told_in (Source c event) = is_told_by event
is_told_in other = false

abbrev pub is_told : Event → Bool
is_told event = is_told_in (target_of event)

-- whether an event makes a step of its first port stand in its source's journal
abbrev pub is_beside_by : HopEvent → Bool
is_beside_by (hop.Arrive cell at) = true
is_beside_by (hop.Request j seq) = j == 1
is_beside_by (hop.Answer j seq granted) = false

abbrev pub is_beside_in : Target → Bool
is_beside_in (Hop c event) = is_beside_by event
is_beside_in other = false

abbrev pub is_beside : Event → Bool
is_beside event = is_beside_in (target_of event)
