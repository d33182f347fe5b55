-- When events are what live processes did. Events are listed with the newest first.
use Rattle.std.specs.Prelude.{◌≡◌, ℕ, List, map, All, Option, None, Some}
use Rattle.abt_keep.specs.Record.{KeptRecord}
use Rattle.abt_facts.specs.Source.{SourceState, Down, Idle, Asking}
use Rattle.std.specs.Prelude.{Bool, true, false}
use Rattle.abt_net.specs.declared.conn.Conn.{Conn}
use Rattle.abt_net.specs.Topology.{Topology, conn_at}
use Rattle.abt_model.specs.declared.event.Event.{Event}
use Rattle.abt_model.specs.Events.{AsksRate}
use Rattle.abt_model.specs.Past.{facts_of}
use Rattle.abt_model.specs.PortTable.{port_table}
use Rattle.abt_weave.specs.Projections.{step_of, past_of, steps_on, entries_on}
use Rattle.abt_actor.specs.Actor.{ActorView, actor_of}
use Rattle.abt_processes.specs.Processes.{PortProcess, Process, Alive, Dead, SourceProcess, Processes}
use Rattle.abt_processes.specs.Journals.{Told, deeds_in, lines_of, told_by}
use Rattle.abt_processes.specs.Actors.{IsAlike}
use Rattle.abt_processes.specs.Sources.{IsCutOff}

abbrev pub is_up_in : SourceState → Bool
is_up_in Down = false
is_up_in Idle = true
is_up_in (Asking seq) = true

-- a journal tells the past of an actor
pub record Tells (actor : ActorView) (told : Told) : Type 0 where
  pub cells : told.cells ≡ actor.cells
  pub clock : told.clock ≡ actor.clock
  pub is_up : told.is_up ≡ is_up_in actor.state

-- what the store has of an actor whose process died: its record, unless an ask was cut off
abbrev pub IsStored : ActorView → KeptRecord → (about : Option ℕ) → Type 0
IsStored actor stored None = stored ≡ actor.kept
IsStored actor stored (Some rate) = IsCutOff actor rate stored

-- A process is that of an actor: it is alike, or died, and its journal tells the actor's past.
abbrev pub IsProcessOf : ActorView → Told → Process → Type 0
IsProcessOf actor told (Alive mine) = Tells actor told × IsAlike actor mine × (told.about ≡ None)
IsProcessOf actor told (Dead stored) = Tells actor told × IsStored actor stored told.about

-- A port has the table that the events leave it, and its journal has just its steps.
pub record IsPortAfter (net : Topology) (earlier : List Event) (p : ℕ) (port : PortProcess) : Type 0 where
  pub table : port.table ≡ port_table net (past_of net earlier) p
  pub steps : steps_on net p earlier ≡ map step_of port.journal

-- The journal of a source has just its deeds, and its process is that of the actor that the events leave.
pub record IsSourceAfter (net : Topology) (earlier : List Event) (c : ℕ) (source : SourceProcess) : Type 0 where
  pub deeds : lines_of (entries_on net c earlier) ≡ deeds_in source.journal
  pub process : (conn : Conn) → conn_at net c ≡ Some conn → IsProcessOf (actor_of conn.vc (facts_of c (past_of net earlier))) (told_by source.journal) source.process

-- Events, of which each asks for a rate that a code has, are what the processes did.
pub record AreEventsOf (net : Topology) (earlier : List Event) (processes : Processes) : Type 0 where
  pub rates : All AsksRate earlier
  pub ports : (p : ℕ) → IsPortAfter net earlier p (processes.ports p)
  pub sources : (c : ℕ) → IsSourceAfter net earlier c (processes.sources c)
