-- The event that a port's next entry can be.
use Rattle.std.specs.Prelude.{◌≡◌, ℕ, ◌+◌, ◌-◌, ◌<◌, true, List, length, reverse, slice_index, Option, None, Some, if◌then◌else◌}
use Rattle.abt_cell.specs.Channel.{Channel}
use Rattle.abt_cell.specs.Message.{Terms}
use Rattle.abt_net.specs.declared.conn.Conn.{Conn}
use Rattle.abt_net.specs.Topology.{Topology, IsWithinRules, conn_at}
use Rattle.abt_model.specs.declared.event.Event.{Event}
use Rattle.abt_model.specs.declared.event.Event.TheVariants.{Turn, Answer}
use Rattle.abt_model.specs.Answers.{is_hop}
use Rattle.abt_model.specs.declared.target.Target.{Target}
use Rattle.abt_model.specs.declared.target.Target.TheVariants.{Hop}
use Rattle.abt_model.specs.Outcomes.{conn_of}
use Rattle.abt_model.specs.PortTable.{hop_visited}
use Rattle.abt_model.specs.Targets.{target_of}
use Rattle.abt_journal.specs.declared.input.PortInput.{PortInput}
use Rattle.abt_journal.specs.declared.input.PortReply.{PortReply}
use Rattle.abt_model.specs.declared.entry.SourceEntry.{SourceEntry}
use Rattle.abt_weave.specs.Asked.{floor_in, ask_in}
use Rattle.abt_weave.specs.Projections.{input_in, entry_by, steps_on, entries_on}
use Rattle.abt_weave.specs.Stuck.{RunJournals, next_step, next_entry}
use Rattle.abt_weave.specs.Candidates.{is_beside}

-- the request of a number, by what the source has done, the newest first
abbrev pub request_told : Channel → List SourceEntry → ℕ → Terms
request_told vc placed seq = record { vc = vc; seq = seq; floor = floor_in placed seq; ask = ask_in placed seq }

-- what an event brings to a port then
abbrev pub input_told : Channel → List SourceEntry → Event → Option PortInput
input_told vc placed event = input_in vc (request_told vc placed) (target_of event)

-- what stands beside a step of this place at the source, if the event happens
abbrev pub entry_beside_in : (place : ℕ) → Target → Option SourceEntry
entry_beside_in place (Hop c event) = entry_by place event true
entry_beside_in place other = None

abbrev pub entry_beside : (place : ℕ) → Event → Option SourceEntry
entry_beside place event = entry_beside_in place (target_of event)

-- An event of a connection comes to a port with this step, whatever its outcome, and is the next entry of its source.
pub record Comes (net : Topology) (journals : RunJournals) (earlier : List Event) (p place : ℕ) (input : PortInput) (event : Event) : Type 0 where
  pub c : ℕ
  pub whose : conn_of event ≡ Some c
  pub conn : Conn
  pub known : conn_at net c ≡ Some conn
  pub within : is_hop (length conn.path) (hop_visited event) ≡ true
  pub port : slice_index conn.path (hop_visited event - 1) ≡ p
  pub brings : input_told conn.vc (reverse (entries_on net c earlier)) event ≡ Some input
  pub at : place ≡ length (steps_on net p earlier)
  pub beside : (x : SourceEntry) → entry_beside place event ≡ Some x → next_entry net journals earlier c ≡ Some x

-- the event is the yes at the last hop that this Turn makes
pub record IsYes (net : Topology) (event : Event) (c seq : ℕ) : Type 0 where
  pub conn : Conn
  pub known : conn_at net c ≡ Some conn
  pub is : event ≡ Answer c (length conn.path) seq true

pub record IsTurnOf (net : Topology) (event turn : Event) : Type 0 where
  pub c : ℕ
  pub seq : ℕ
  pub yes_of : IsYes net event c seq
  pub turn_is : turn ≡ Turn c seq

-- an event of this connection comes to a port
pub record IsComing (net : Topology) (journals : RunJournals) (earlier : List Event) (p place : ℕ) (input : PortInput) (c : ℕ) (event : Event) : Type 0 where
  pub conn : conn_of event ≡ Some c
  pub comes : Comes net journals earlier p place input event

-- how far a source comes by an event
abbrev pub reached_by : Event → ℕ → ℕ
reached_by event come = if is_beside event then come + 1 else come

-- The one event that can be a port's next entry, and how far the source of its connection comes by it.
pub record IsExpected (net : Topology) (journals : RunJournals) (earlier : List Event) (sources : List ℕ) (p place : ℕ) (input : PortInput) (reply : PortReply) (c reached : ℕ) (event : Event) : Type 0 where
  pub rules : IsWithinRules net
  pub coming : IsComing net journals earlier p place input c event
  pub only : (other : Event) → Comes net journals earlier p place input other → other ≡ event
  pub next : next_step net journals earlier p ≡ Some (record { place = place; input = input; reply = reply })
  pub low : c < length sources
  pub reached_is : reached ≡ reached_by event (slice_index sources c)
