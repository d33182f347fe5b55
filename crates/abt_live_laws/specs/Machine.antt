-- What a step of a process is to live processes together (docs/LIVE.md, "The law").
use Rattle.std.specs.Prelude.{◌≡◌, ◌⊎◌, ℕ, List, [], ◌∷◌, ◌++◌, Option, Some}
use Rattle.std.specs.Io.KnownBytes.{Appends}
use Rattle.abt_text.specs.Text.{Text, ◌⋅◌}
use Rattle.abt_rate.specs.Rate.{IsRate}
use Rattle.abt_net.specs.declared.conn.Conn.{Conn}
use Rattle.abt_net.specs.Topology.{Topology, conn_at}
use Rattle.abt_journal.specs.declared.next_message.Next.{Next}
use Rattle.abt_journal.specs.declared.next_message.Next.TheVariants.{Tell}
use Rattle.abt_processes.specs.Lists.{IsIn}
use Rattle.abt_processes.specs.Moves.{SourceDoes}
use Rattle.abt_processes.specs.Processes.{Alive, JournalLine, About, Open, Deed, Processes}
use Rattle.abt_live.specs.declared.source_asked.SourceAsked.{SourceAsked}
use Rattle.abt_live.specs.declared.source_asked.SourceAsked.TheVariants as asked
use Rattle.abt_live.specs.declared.source_lines.SourceLines.{SourceLines}
use Rattle.abt_live.specs.FailedLine.{failed_line}
use Rattle.abt_live.specs.SourceJournal.{about_line, deed_line}
use Rattle.abt_live.specs.SourceSaid.{outcome_said}
use Rattle.abt_live.specs.SourceSteps.{Does}

-- the text of lines of the journal of a connection's source
abbrev pub line_text : (conn : ℕ) → JournalLine → Text
line_text conn (About rate) = about_line conn rate
line_text conn (Open rate) = failed_line conn rate
line_text conn (Deed event outcome) = deed_line conn event outcome

abbrev pub lines_text : (conn : ℕ) → List JournalLine → Text
lines_text conn [] = []
lines_text conn (line ∷ lines) = line_text conn line ⋅ lines_text conn lines

-- A server of lines is the process of a source of the net.
pub record IsProcessIn {K J : Type 0} (net : Topology) (processes : Processes) (server : SourceLines K J) : Type 0 where
  pub conn : Conn
  pub known : conn_at net server.conn ≡ Some conn
  pub channel : server.vc ≡ conn.vc
  pub alive : (processes.sources server.conn).process ≡ Alive server.source

-- What is handed in: an answer was sent to the source, and a rate is one that a code has.
abbrev pub IsHandedIn : (sent : List Next) → (conn : ℕ) → SourceAsked → Type 0
IsHandedIn sent conn (asked.Told answer) = IsIn (Tell conn answer) sent
IsHandedIn sent conn (asked.Ask rate) = IsRate rate
IsHandedIn sent conn other = Unit {0}

-- A source did what is a move, its journal got just the lines of that, and its outcome was said.
pub record IsMove {K J : Type 0} (contents : J → Option Text) (net : Topology) (before : Processes) (old new : SourceLines K J) (said : Text) : Type 0 where
  pub after : Processes
  pub move : SourceDoes net before after
  pub its : move.c ≡ old.conn
  pub process : IsProcessIn net after new
  pub lines : List JournalLine
  pub journal : (after.sources old.conn).journal ≡ (before.sources old.conn).journal ++ lines
  pub written : Appends (contents old.journal) (contents new.journal) (lines_text old.conn lines)
  pub says : said ≡ outcome_said new.source.clock move.outcome

-- Nothing happened, and nothing was written.
pub record IsNoMove {K J : Type 0} (contents : J → Option Text) (old new : SourceLines K J) : Type 0 where
  pub same : new.source ≡ old.source
  pub silent : Appends (contents old.journal) (contents new.journal) []

-- A step of a source over a line is a move of the processes that it is one of, or nothing.
abbrev pub SourcesMove : {J : Type 0} → (K : Type 0) → (contents : J → Option Text) → Type 0
SourcesMove {J = J} K contents =
    (net : Topology) (before : Processes) (old new : SourceLines K J) (asked : SourceAsked) (said : Text) → IsProcessIn net before old → IsHandedIn before.sent old.conn asked → Does contents old asked said new
    → IsMove contents net before old new said ⊎ IsNoMove contents old new
