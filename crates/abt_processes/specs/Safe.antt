-- What is promised of live processes.
use Rattle.std.specs.Prelude.{◌≡◌, ◌≢◌, ◌≤◌, ◌<◌, ◌-◌, ℕ, length, slice_index, Some, Ok}
use Rattle.abt_facts.specs.Source.{Down}
use Rattle.abt_gcra.specs.declared.verdict.Verdict.TheVariants.{Conforming}
use Rattle.abt_net.specs.declared.conn.Conn.{Conn}
use Rattle.abt_net.specs.Topology.{Topology, conn_at}
use Rattle.abt_node.specs.Table.{Connection, connection_at, held_at, sum_of}
use Rattle.abt_journal.specs.declared.entry.Entry.{Entry}
use Rattle.abt_journal.specs.declared.input.PortInput.{PortInput}
use Rattle.abt_journal.specs.declared.input.PortInput.TheVariants.{Arrive}
use Rattle.abt_journal.specs.declared.input.PortReply.{PortReply}
use Rattle.abt_journal.specs.declared.input.PortReply.TheVariants.{Arrived}
use Rattle.abt_actor.specs.Actor.{ActorView}
use Rattle.abt_processes.specs.Lists.{IsIn}
use Rattle.abt_processes.specs.Processes.{Alive, Processes}

-- a cell is found conforming
abbrev pub IsFoundConforming : PortInput → PortReply → Type 0
IsFoundConforming (Arrive vc at) reply = reply ≡ Arrived (Ok Conforming)
IsFoundConforming other reply = Unit {0}

-- A source that is alive and up shapes at a rate that each port of its path holds for it; what a port holds is at most its capacity; and each
-- cell that came to a port was found conforming.
pub record AreSafe (net : Topology) (processes : Processes) : Type 0 where
  pub rates : (c : ℕ) (conn : Conn) (actor : ActorView) → conn_at net c ≡ Some conn → (processes.sources c).process ≡ Alive actor → actor.state ≢ Down →
      (hop : ℕ) → 1 ≤ hop → hop ≤ length conn.path →
      (kept : Connection) × (connection_at (processes.ports (slice_index conn.path (hop - 1))).table conn.vc ≡ Some kept) × (actor.source.rate ≤ held_at kept)
  pub sums : (port : ℕ) → port < length net.capacities → sum_of (processes.ports port).table ≤ (processes.ports port).table.capacity
  pub cells : (port : ℕ) (entry : Entry) → IsIn entry (processes.ports port).journal → IsFoundConforming entry.input entry.reply
