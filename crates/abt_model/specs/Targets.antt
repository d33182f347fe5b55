-- Where an event happens: at the source of a connection, at a hop of its path, at the end of that path, or at a port alone.
use Rattle.std.specs.Prelude.{ℕ, ◌-◌, List, slice_index, Option, None, Some}
use Rattle.abt_model.specs.declared.event.Event.{Event}
use Rattle.abt_model.specs.declared.event.Event.TheVariants.{Start, Ask, Again, Crash, Emit, Arrive, Request, Turn, Answer, Told, Capacity}
use Rattle.abt_model.specs.declared.target.SourceEvent.{SourceEvent}
use Rattle.abt_model.specs.declared.target.SourceEvent.TheVariants as source
use Rattle.abt_model.specs.declared.target.HopEvent.{HopEvent}
use Rattle.abt_model.specs.declared.target.HopEvent.TheVariants as hop
use Rattle.abt_model.specs.declared.target.Target.{Target}
use Rattle.abt_model.specs.declared.target.Target.TheVariants.{Source, Hop, End, Port}

abbrev pub target_of : Event → Target
target_of (Start c now) = Source c (source.Start now)
target_of (Ask c rate plan) = Source c (source.Ask rate plan)
target_of (Again c) = Source c source.Again
target_of (Crash c) = Source c source.Crash
target_of (Emit c now) = Source c (source.Emit now)
target_of (Told c seq granted) = Source c (source.Told seq granted)
target_of (Arrive c cell at) = Hop c (hop.Arrive cell at)
target_of (Request c j seq) = Hop c (hop.Request j seq)
target_of (Answer c j seq granted) = Hop c (hop.Answer j seq granted)
target_of (Turn c seq) = End c seq
target_of (Capacity p capacity) = Port p capacity

-- the event at the source of a connection, and that at a hop of its path
abbrev pub event_at_source : ℕ → SourceEvent → Event
event_at_source c (source.Start now) = Start c now
event_at_source c (source.Ask rate plan) = Ask c rate plan
event_at_source c source.Again = Again c
event_at_source c source.Crash = Crash c
event_at_source c (source.Emit now) = Emit c now
event_at_source c (source.Told seq granted) = Told c seq granted

abbrev pub event_at_hop : ℕ → HopEvent → Event
event_at_hop c (hop.Arrive cell at) = Arrive c cell at
event_at_hop c (hop.Request j seq) = Request c j seq
event_at_hop c (hop.Answer j seq granted) = Answer c j seq granted

-- the event that happens there
abbrev pub event_at : Target → Event
event_at (Source c event) = event_at_source c event
event_at (Hop c event) = event_at_hop c event
event_at (End c seq) = Turn c seq
event_at (Port p capacity) = Capacity p capacity

-- the connection, if it is of one
abbrev pub conn_in : Target → Option ℕ
conn_in (Source c event) = Some c
conn_in (Hop c event) = Some c
conn_in (End c seq) = Some c
conn_in (Port p capacity) = None

-- the hop that something comes to: a cell comes to the first
abbrev pub hop_met_by : HopEvent → ℕ
hop_met_by (hop.Arrive cell at) = 1
hop_met_by (hop.Request j seq) = j
hop_met_by (hop.Answer j seq granted) = j

-- the hop of its connection's path, 0 if it is no hop
abbrev pub hop_in : Target → ℕ
hop_in (Source c event) = 0
hop_in (Hop c event) = hop_met_by event
hop_in (End c seq) = 0
hop_in (Port p capacity) = 0

-- the port at that hop, or that which it happens at alone
abbrev pub port_in : List ℕ → Target → ℕ
port_in path (Source c event) = 0
port_in path (Hop c event) = slice_index path (hop_met_by event - 1)
port_in path (End c seq) = 0
port_in path (Port p capacity) = p
