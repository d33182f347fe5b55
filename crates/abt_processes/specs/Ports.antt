-- What comes to a port, and what is sent then.
use Rattle.std.specs.Prelude.{◌≡◌, ◌≢◌, ◌≤◌, ◌+◌, ℕ, [], ◌∷◌, ◌++◌, length, max, slice_index, Some}
use Rattle.abt_cell.specs.declared.message.Rm.{Rm}
use Rattle.abt_net.specs.declared.conn.Conn.{Conn}
use Rattle.abt_net.specs.Topology.{Topology, conn_at}
use Rattle.abt_net.specs.Paths.{hop_of}
use Rattle.abt_journal.specs.declared.input.PortInput.{PortInput}
use Rattle.abt_journal.specs.declared.input.PortReply.{PortReply}
use Rattle.abt_journal.specs.declared.next_message.Next.{Next}
use Rattle.abt_journal.specs.Following.{channel_of, sent_after}
use Rattle.abt_journal.specs.Replay.{reply_by, table_after}
use Rattle.abt_serving.specs.Messages.{input_of}
use Rattle.abt_processes.specs.Lists.{IsIn, Stay, OnlyAt}
use Rattle.abt_processes.specs.Processes.{AccessLine, LeftCell, LeftRequest, PortProcess, Processes}

-- a port that has served an input: its table replied, and its journal has the step
abbrev pub served : PortProcess → PortInput → PortProcess
served port input = record {
  table = table_after port.table input;
  journal = port.journal ++ record { place = length port.journal; caller = 0; input = input; reply = reply_by port.table input } ∷ [];
}

-- What is sent once a port replied to a message so is what follows along the path of its connection (docs/RULES.md, "Path").
abbrev pub Follows : Topology → (port : ℕ) → Rm → PortReply → Next → Type 0
Follows net port message reply next =
    (c : ℕ) (conn : Conn) → conn_at net c ≡ Some conn → conn.vc ≡ channel_of message → hop_of conn.path port ≢ 0 →
    next ≡ sent_after conn.path c (hop_of conn.path port) message reply

-- A port serves an input. Nothing else changes but, perhaps, access lines and what was sent.
pub record Serves (old new : Processes) (port : ℕ) (input : PortInput) : Type 0 where
  pub ports : OnlyAt port old.ports new.ports (served (old.ports port) input)
  pub sources : Stay old.sources new.sources

-- A port serves a message, and what follows is sent.
pub record Replies (net : Topology) (old new : Processes) (port : ℕ) (message : Rm) : Type 0 where
  pub serves : Serves old new port (input_of message)
  pub next : Next
  pub follows : Follows net port message (reply_by (old.ports port).table (input_of message)) next
  pub sent : new.sent ≡ next ∷ old.sent

-- the first port of a path
abbrev pub first_port : Conn → ℕ
first_port conn = slice_index conn.path 0

-- no cell that left before a request comes behind it
abbrev pub behind_request : AccessLine → LeftRequest → AccessLine
behind_request line left = record line { first = max line.first left.behind }

-- no cell up to this one comes behind it, and none before this moment
abbrev pub behind_cell : AccessLine → (cell at : ℕ) → AccessLine
behind_cell line cell at = record line { first = cell + 1; last = at }

-- A cell that left comes at a moment: in order, and neither sooner nor later than the line delivers it; and moments don't go back.
pub record MayArrive (conn : Conn) (line : AccessLine) (left : LeftCell) (at : ℕ) : Type 0 where
  pub has_left : IsIn left line.cells
  pub in_order : line.first ≤ left.cell
  pub not_sooner : left.moment + conn.delay ≤ at
  pub not_later : at ≤ left.moment + conn.delay + conn.tau
  pub not_back : line.last ≤ at
