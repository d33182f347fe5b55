-- What events are to the ports and the sources of a net: the entries that they make in journals (docs/THREADS.md). Events are
-- listed with the newest first.
use Rattle.std.specs.Prelude.{ℕ, ◌-◌, ◌==◌, ◌&&◌, ◌||◌, not, Bool, true, false, List, [], ◌∷◌, ◌++◌, length, if◌then◌else◌, slice_index, Option, None, Some, option_map, Ok, Err}
use Rattle.abt_cell.specs.Channel.{Channel}
use Rattle.abt_cell.specs.Message.{Terms}
use Rattle.abt_net.specs.declared.conn.Conn.{Conn}
use Rattle.abt_net.specs.Topology.{Topology, conn_at}
use Rattle.abt_facts.specs.declared.fact.Fact.{Fact}
use Rattle.abt_model.specs.declared.event.Event.{Event}
use Rattle.abt_model.specs.declared.target.SourceEvent.{SourceEvent}
use Rattle.abt_model.specs.declared.target.SourceEvent.TheVariants as source
use Rattle.abt_model.specs.declared.target.HopEvent.{HopEvent}
use Rattle.abt_model.specs.declared.target.HopEvent.TheVariants as hop
use Rattle.abt_model.specs.declared.target.Target.{Target}
use Rattle.abt_model.specs.declared.target.Target.TheVariants.{Source, Hop, End, Port}
use Rattle.abt_model.specs.declared.outcome.Outcome.{Outcome}
use Rattle.abt_model.specs.declared.outcome.Outcome.TheVariants.{Arrived, Requested, Answered, CapacitySet, CapacityRefused, NotEnabled}
use Rattle.abt_cell.specs.Message.{answer_to}
use Rattle.abt_source.specs.SourceFacts.{request_of}
use Rattle.abt_model.specs.Outcomes.{conn_of, outcome_of, after_event}
use Rattle.abt_model.specs.Past.{Past, facts_of}
use Rattle.abt_model.specs.PortTable.{hop_visited}
use Rattle.abt_model.specs.Targets.{target_of, event_at_source}
use Rattle.abt_journal.specs.declared.entry.Entry.{Entry}
use Rattle.abt_journal.specs.declared.input.PortInput.{PortInput}
use Rattle.abt_journal.specs.declared.input.PortInput.TheVariants.{Request as RequestIn, Answer as AnswerIn, Arrive as ArriveIn, Capacity as CapacityIn}
use Rattle.abt_journal.specs.declared.input.PortReply.{PortReply}
use Rattle.abt_journal.specs.declared.input.PortReply.TheVariants.{Requested as RequestedOut, Answered as AnsweredOut, Arrived as ArrivedOut, Capped as CappedOut}
use Rattle.abt_model.specs.declared.entry.SourceEntry.{SourceEntry}
use Rattle.abt_model.specs.declared.entry.SourceEntry.TheVariants.{Did, Sent, Arrived as ArrivedAt}

-- one step of a port, as its journal has it, but for who had it done
pub record Step : Type 0 where
  pub place : ℕ
  pub input : PortInput
  pub reply : PortReply

abbrev pub step_of : Entry → Step
step_of entry = record { place = entry.place; input = entry.input; reply = entry.reply }

-- a port that an event comes to, what it brings, and what the port replies
pub record Visit : Type 0 where
  pub port : ℕ
  pub input : PortInput
  pub reply : PortReply

-- whether an event with this outcome has happened
abbrev pub is_enabled : Outcome → Bool
is_enabled (NotEnabled cause) = false
is_enabled outcome = true

-- the reply of a port that an outcome tells
abbrev pub reply_of : Outcome → Option PortReply
reply_of (Requested onward) = Some (RequestedOut onward)
reply_of (Answered back) = Some (AnsweredOut back)
reply_of (Arrived verdict) = Some (ArrivedOut (Ok verdict))
reply_of CapacitySet = Some (CappedOut (Ok tt))
reply_of (CapacityRefused fault) = Some (CappedOut (Err fault))
reply_of outcome = None

-- what comes to a port by an event at a hop, given the request of each number
abbrev pub input_by : Channel → (ℕ → Terms) → HopEvent → PortInput
input_by vc request (hop.Arrive cell at) = ArriveIn vc at
input_by vc request (hop.Request j seq) = RequestIn (request seq)
input_by vc request (hop.Answer j seq granted) = AnswerIn (answer_to (request seq) granted)

abbrev pub input_in : Channel → (ℕ → Terms) → Target → Option PortInput
input_in vc request (Hop c event) = Some (input_by vc request event)
input_in vc request other = None

-- what an event of a connection brings to a port
abbrev pub input_of : Channel → List Fact → Event → Option PortInput
input_of vc facts event = input_in vc (request_of vc facts) (target_of event)

-- the visit that an event of a connection is, given its facts
abbrev pub visit_by : Event → Option PortReply → List Fact → Option Conn → Option Visit
visit_by event reply facts None = None
visit_by event None facts (Some conn) = None
visit_by event (Some reply) facts (Some conn) =
    option_map (λ (input : PortInput). record { port = slice_index conn.path (hop_visited event - 1); input = input; reply = reply })
    (input_of conn.vc facts event)

-- the visit of an event at a port alone, which gives that port a capacity
abbrev pub visit_alone : Target → Option PortReply → Option Visit
visit_alone target None = None
visit_alone (Port p capacity) (Some reply) = Some (record { port = p; input = CapacityIn capacity; reply = reply })
visit_alone other (Some reply) = None

-- the visit that an event is, of a connection or of a port alone
abbrev pub visit_of : Topology → Past → Event → Option PortReply → Option ℕ → Option Visit
visit_of net past event reply None = visit_alone (target_of event) reply
visit_of net past event reply (Some c) = visit_by event reply (facts_of c past) (conn_at net c)

-- the visit that an event is after a past, if it happens and comes to a port
abbrev pub visit : Topology → Past → Event → Option Visit
visit net past event = visit_of net past event (reply_of (outcome_of net past event)) (conn_of event)

-- whether an event at a source is an answer that it is told, and no command
abbrev pub is_told_by : SourceEvent → Bool
is_told_by (source.Told seq granted) = true
is_told_by command = false

-- what stands at the source for an event at a hop that happens or doesn't, given the place of its step in the journal
-- of the first port
abbrev pub entry_by : (place : ℕ) → HopEvent → (happens : Bool) → Option SourceEntry
entry_by place (hop.Arrive cell at) happens = if happens then Some (ArrivedAt cell place) else None
entry_by place (hop.Request j seq) happens = if happens && j == 1 then Some (Sent place) else None
entry_by place (hop.Answer j seq granted) happens = None

abbrev pub entry_in : (place : ℕ) → Target → Outcome → Option SourceEntry
entry_in place (Source c event) outcome = if not (is_told_by event) || is_enabled outcome then Some (Did (event_at_source c event) outcome) else None
entry_in place (Hop c event) outcome = entry_by place event (is_enabled outcome)
entry_in place (End c seq) outcome = None
entry_in place (Port p capacity) outcome = None

-- What an event is to its source, given the place of its step, if it has one, in the journal of the first port: a
-- command stands there whatever its outcome, and all else only if it happens.
abbrev pub entry_of : (place : ℕ) → Event → Outcome → Option SourceEntry
entry_of place event outcome = entry_in place (target_of event) outcome

-- the past that events leave
abbrev pub past_of : Topology → List Event → Past
past_of net [] = []
past_of net (event ∷ earlier) = after_event net (past_of net earlier) event

-- a visit as a step of port p, which has had so many
abbrev pub step_at : (p place : ℕ) → Option Visit → List Step
step_at p place None = []
step_at p place (Some visit) = if visit.port == p then record { place = place; input = visit.input; reply = visit.reply } ∷ [] else []

-- the projection of events onto port p: the steps that they are to it, the oldest first
abbrev pub steps_on : Topology → ℕ → List Event → List Step
steps_on net p [] = []
steps_on net p (event ∷ earlier) = steps_on net p earlier ++ step_at p (length (steps_on net p earlier)) (visit net (past_of net earlier) event)

abbrev pub first_port : Option Conn → ℕ
first_port None = 0
first_port (Some conn) = slice_index conn.path 0

-- the place that a step takes at the first port of the path of its connection, 0 if it is of none
abbrev pub place_of : Topology → List Event → Option ℕ → ℕ
place_of net earlier None = 0
place_of net earlier (Some c) = length (steps_on net (first_port (conn_at net c)) earlier)

-- the place that an event's step takes at the first port of its path
abbrev pub place_at_first : Topology → List Event → Event → ℕ
place_at_first net earlier event = place_of net earlier (conn_of event)

-- what an event is to its source after earlier ones
abbrev pub entry_made : Topology → List Event → Event → Option SourceEntry
entry_made net earlier event = entry_of (place_at_first net earlier event) event (outcome_of net (past_of net earlier) event)

-- what an entry of the source of a connection, if it is of one, is to source d
abbrev pub entry_at : Option ℕ → (d : ℕ) → Option SourceEntry → List SourceEntry
entry_at c d None = []
entry_at None d (Some entry) = []
entry_at (Some c) d (Some entry) = if c == d then entry ∷ [] else []

-- the projection of events onto source c: the entries that they are to it, the oldest first
abbrev pub entries_on : Topology → ℕ → List Event → List SourceEntry
entries_on net c [] = []
entries_on net c (event ∷ earlier) = entries_on net c earlier ++ entry_at (conn_of event) c (entry_made net earlier event)
