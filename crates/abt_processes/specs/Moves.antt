-- What may happen to live processes (docs/LIVE.md, "The law"). Each premise of the law is a field of one of these moves. There is no move by which
-- a port loses its table.
use Rattle.std.specs.Prelude.{◌≡◌, ◌<◌, ℕ, List, [], ◌∷◌, ◌++◌, length, Some}
use Rattle.abt_cell.specs.declared.message.Rm.{Rm}
use Rattle.abt_cell.specs.declared.message.Rm.TheVariants as rm
use Rattle.abt_keep.specs.Record.{KeptRecord}
use Rattle.abt_net.specs.declared.conn.Conn.{Conn}
use Rattle.abt_net.specs.Topology.{Topology, conn_at}
use Rattle.abt_model.specs.declared.command.SourceCommand.{SourceCommand}
use Rattle.abt_model.specs.declared.outcome.Outcome.{Outcome}
use Rattle.abt_journal.specs.declared.input.PortInput.TheVariants.{Arrive, Capacity}
use Rattle.abt_journal.specs.declared.next_message.Next.TheVariants.{Send}
use Rattle.abt_actor.specs.Actor.{ActorView}
use Rattle.abt_actor.specs.Commands.{event_of}
use Rattle.abt_processes.specs.Lists.{IsIn, Stay, OnlyAt}
use Rattle.abt_processes.specs.Processes.{Processes, Process, Alive, Dead, JournalLine, About, LeftCell, LeftRequest}
use Rattle.abt_processes.specs.Journals.{line_of, restart_lines, told_by}
use Rattle.abt_processes.specs.Actors.{Does, begun}
use Rattle.abt_processes.specs.Ports.{MayArrive, Replies, Serves, behind_cell, behind_request, first_port}
use Rattle.abt_processes.specs.Sources.{AreAbouts, IsCutOff, MayBeTold, with_left}

-- A message that was sent to a port comes to it.
pub record MessageComes (net : Topology) (old new : Processes) : Type 0 where
  pub port : ℕ
  pub message : Rm
  pub was_sent : IsIn (Send port message) old.sent
  pub replies : Replies net old new port message
  pub lines : Stay old.lines new.lines

-- A request that left a source comes over its access line to the first port of its path.
pub record RequestComes (net : Topology) (old new : Processes) : Type 0 where
  pub c : ℕ
  pub conn : Conn
  pub known : conn_at net c ≡ Some conn
  pub left : LeftRequest
  pub has_left : IsIn left (old.lines c).requests
  pub replies : Replies net old new (first_port conn) (rm.Request left.request)
  pub lines : OnlyAt c old.lines new.lines (behind_request (old.lines c) left)

-- A cell that left a source comes over its access line to the first port of its path.
pub record CellComes (net : Topology) (old new : Processes) : Type 0 where
  pub c : ℕ
  pub conn : Conn
  pub known : conn_at net c ≡ Some conn
  pub left : LeftCell
  pub at : ℕ
  pub may : MayArrive conn (old.lines c) left at
  pub serves : Serves old new (first_port conn) (Arrive conn.vc at)
  pub lines : OnlyAt c old.lines new.lines (behind_cell (old.lines c) left.cell at)
  pub sent : new.sent ≡ old.sent

-- An operator gives a port of the net another capacity.
pub record CapacityComes (net : Topology) (old new : Processes) : Type 0 where
  pub port : ℕ
  pub low : port < length net.capacities
  pub units : ℕ
  pub serves : Serves old new port (Capacity units)
  pub lines : Stay old.lines new.lines
  pub sent : new.sent ≡ old.sent

-- A source changes to this, and what else changes is its access line.
pub record Becomes (old new : Processes) (c : ℕ) (process : Process) (journal : List JournalLine) : Type 0 where
  pub ports : Stay old.ports new.ports
  pub sources : OnlyAt c old.sources new.sources (record { process = process; journal = journal })
  pub sent : new.sent ≡ old.sent

-- A source that is alive does something, and its journal has that, maybe behind a line that it is about to be done.
pub record SourceDoes (net : Topology) (old new : Processes) : Type 0 where
  pub c : ℕ
  pub conn : Conn
  pub known : conn_at net c ≡ Some conn
  pub actor : ActorView
  pub alive : (old.sources c).process ≡ Alive actor
  pub command : SourceCommand
  pub outcome : Outcome
  pub after : ActorView
  pub may : MayBeTold old.sent c command outcome
  pub does : Does actor command outcome after
  pub before : List JournalLine
  pub abouts : AreAbouts before
  pub becomes : Becomes old new c (Alive after) ((old.sources c).journal ++ before ++ line_of (event_of c command) outcome ∷ [])
  pub lines : OnlyAt c old.lines new.lines (with_left (old.lines c) command outcome)

-- The process of a source is killed. Its store keeps the record.
pub record SourceDies (net : Topology) (old new : Processes) : Type 0 where
  pub c : ℕ
  pub actor : ActorView
  pub alive : (old.sources c).process ≡ Alive actor
  pub becomes : Becomes old new c (Dead actor.kept) (old.sources c).journal
  pub lines : Stay old.lines new.lines

-- It is killed while an ask writes: the journal has said so.
pub record SourceDiesAsking (net : Topology) (old new : Processes) : Type 0 where
  pub c : ℕ
  pub actor : ActorView
  pub alive : (old.sources c).process ≡ Alive actor
  pub rate : ℕ
  pub stored : KeptRecord
  pub cut_off : IsCutOff actor rate stored
  pub becomes : Becomes old new c (Dead stored) ((old.sources c).journal ++ About rate ∷ [])
  pub lines : Stay old.lines new.lines

-- A source begins, for the first time or again: it reads its own journal, goes on behind what that tells, and writes what became of the process
-- before. Its store has the record that it had.
pub record SourceBegins (net : Topology) (old new : Processes) : Type 0 where
  pub c : ℕ
  pub conn : Conn
  pub known : conn_at net c ≡ Some conn
  pub stored : KeptRecord
  pub dead : (old.sources c).process ≡ Dead stored
  pub becomes : Becomes old new c
      (Alive (begun conn.vc stored (told_by (old.sources c).journal).cells (told_by (old.sources c).journal).clock))
      ((old.sources c).journal ++ restart_lines c (told_by (old.sources c).journal))
  pub lines : Stay old.lines new.lines

pub data Moves (net : Topology) (old new : Processes) : Type 0 where
  MessageMoves : MessageComes net old new → Moves net old new
  RequestMoves : RequestComes net old new → Moves net old new
  CellMoves : CellComes net old new → Moves net old new
  CapacityMoves : CapacityComes net old new → Moves net old new
  DeedMoves : SourceDoes net old new → Moves net old new
  DeathMoves : SourceDies net old new → Moves net old new
  CutMoves : SourceDiesAsking net old new → Moves net old new
  StartMoves : SourceBegins net old new → Moves net old new
