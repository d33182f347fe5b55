-- Runs of a net in threads (docs/RULES.md, "Workers").
use Rattle.std.specs.Prelude.{◌≡◌, ◌≢◌, ℕ, ◌+◌, ◌<◌, ◌≤◌, List, [], ◌∷◌, length, map, All, slice_index}
use Rattle.abt_rate.specs.Limits.{AreWorkers}
use Rattle.abt_cell.specs.declared.message.Rm.{Rm}
use Rattle.abt_net.specs.Topology.{Topology}
use Rattle.abt_net.specs.declared.conn.Conn.{Conn}
use Rattle.abt_journal.specs.declared.entry.Entry.{Entry}
use Rattle.abt_journal.specs.Foreign.{AreHistories}
use Rattle.abt_journal.specs.Gathered.{journal_at, entries_of}
use Rattle.abt_links.specs.Operations.{handed_to}
use Rattle.abt_model.specs.declared.script_command.Command.{Command}
use Rattle.abt_model.specs.declared.journal.SourceJournal.{SourceJournal}
use Rattle.abt_links.specs.declared.plan.ThreadPlan.{ThreadPlan}
use Rattle.abt_serving.specs.Messages.{input_of}
use Rattle.abt_links.specs.Scripts.{RunsScript, IsInTolerance, step_of}
use Rattle.abt_links.specs.declared.gathered.Gathered.{Gathered}

-- There are link workers, and not too many.
abbrev pub HasWorkers : ThreadPlan → Type 0
HasWorkers plan = AreWorkers plan.workers

-- There is one script for each connection, and no jitter of it is above the connection's tau.
abbrev pub ScriptsFit : List Conn → List (List Command) → Type 0
ScriptsFit [] [] = Unit {0}
ScriptsFit [] (script ∷ scripts) = ⊥
ScriptsFit (conn ∷ conns) [] = ⊥
ScriptsFit (conn ∷ conns) (script ∷ scripts) = All (IsInTolerance conn.tau) script × ScriptsFit conns scripts

-- What a run leaves of connection c: the journal of its source runs its script, and the steps that this names are the connection's
-- entries in the journal of the first port of its path. No other port has one.
pub record IsRunOf (conn : Conn) (c : ℕ) (script : List Command) (journals : List (List Entry)) (source : SourceJournal) : Type 0 where
  pub runs : RunsScript conn c script source.entries (map step_of (entries_of c (journal_at journals (slice_index conn.path 0))))
  pub elsewhere : (p : ℕ) → p ≢ slice_index conn.path 0 → entries_of c (journal_at journals p) ≡ []

-- what a run leaves of the connections from c on
abbrev pub AreRunsFrom : ℕ → List Conn → List (List Command) → List (List Entry) → List SourceJournal → Type 0
AreRunsFrom c [] [] journals [] = Unit {0}
AreRunsFrom c (conn ∷ conns) (script ∷ scripts) journals (source ∷ sources) =
    IsRunOf conn c script journals source × AreRunsFrom (c + 1) conns scripts journals sources
AreRunsFrom c conns scripts journals sources = ⊥

-- The entry is one for a request or an answer.
abbrev pub IsMessageEntry : Entry → Type 0
IsMessageEntry entry = (message : Rm) × (entry.input ≡ input_of message)

-- What a run of threads with so many link workers leaves: the journal of each port is one of one thread, each source ran its script,
-- the link workers' entries are requests and answers, the operator's entries are what its list hands to each port, in its order, each
-- once, and there is no other caller.
pub record IsRun (net : Topology) (scripts : List (List Command)) (operations : List (ℕ × ℕ)) (workers : ℕ) (run : Gathered) : Type 0 where
  pub histories : AreHistories net run.journals
  pub sources : AreRunsFrom 0 net.conns scripts run.journals run.sources.items
  pub links : (k p : ℕ) → k < workers → All IsMessageEntry (entries_of (length net.conns + k) (journal_at run.journals p))
  pub operator : (p : ℕ) → map (λ e. e.input) (entries_of (length net.conns + workers) (journal_at run.journals p)) ≡ handed_to p operations
  pub callers : (p : ℕ) → All (λ e. e.caller ≤ length net.conns + workers) (journal_at run.journals p)
