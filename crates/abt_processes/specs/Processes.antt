-- The state of the live processes of a net (docs/LIVE.md, "The law"): ports, sources with their stores and journals, access lines, and all that
-- was ever sent. Ports and connections are named by their numbers.
use Rattle.std.specs.Prelude.{ℕ, List, []}
use Rattle.abt_cell.specs.Message.{Terms}
use Rattle.abt_keep.specs.Record.{KeptRecord, old_record}
use Rattle.abt_node.specs.Table.{Table}
use Rattle.abt_net.specs.Topology.{Topology}
use Rattle.abt_model.specs.PortTable.{port_table}
use Rattle.abt_model.specs.declared.event.Event.{Event}
use Rattle.abt_model.specs.declared.outcome.Outcome.{Outcome}
use Rattle.abt_journal.specs.declared.entry.Entry.{Entry}
use Rattle.abt_journal.specs.declared.next_message.Next.{Next}
use Rattle.abt_actor.specs.Actor.{ActorView}

-- a port of a switch at work: its table, and its journal, the oldest step first
pub record PortProcess : Type 0 where
  pub table : Table
  pub journal : List Entry

-- the process of a source: it is alive, or there is none, and its store has a record
pub data Process : Type 0 where
  Alive : (actor : ActorView) → Process
  Dead : (stored : KeptRecord) → Process

-- A line of a source's journal: an ask is about to write into the store; an ask was refused since the store didn't keep its record, which it
-- may have all the same; or any other deed, with its outcome.
pub data JournalLine : Type 0 where
  About : (rate : ℕ) → JournalLine
  Open : (rate : ℕ) → JournalLine
  Deed : (event : Event) → (outcome : Outcome) → JournalLine

-- a source: its process, and its journal, the oldest line first
pub record SourceProcess : Type 0 where
  pub process : Process
  pub journal : List JournalLine

-- a request that left a source once so many cells had left it
pub record LeftRequest : Type 0 where
  pub request : Terms
  pub behind : ℕ

-- a cell of this number that left a source at a moment
pub record LeftCell : Type 0 where
  pub cell : ℕ
  pub moment : ℕ

-- the access line of a connection: what ever left the source; the first cell that may still come; and the moment at which the last one came, 0
-- if none did
pub record AccessLine : Type 0 where
  pub requests : List LeftRequest
  pub cells : List LeftCell
  pub first : ℕ
  pub last : ℕ

pub record Processes : Type 0 where
  pub ports : (port : ℕ) → PortProcess
  pub sources : (conn : ℕ) → SourceProcess
  pub lines : (conn : ℕ) → AccessLine
  pub sent : List Next

-- Before anything happened: each port has the table that the net gives it, no source has a process, and each store is new.
abbrev pub opening_of : Topology → Processes
opening_of net = record {
  ports = λ port. record { table = port_table net [] port; journal = [] };
  sources = λ conn. record { process = Dead (old_record 0); journal = [] };
  lines = λ conn. record { requests = []; cells = []; first = 0; last = 0 };
  sent = [];
}
