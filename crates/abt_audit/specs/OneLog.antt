-- The log of one port, or of one source, judged alone (docs/AUDITS.md, "One log"). What comes in is taken as sent, so what an entry
-- has to say follows from the entries before it in the same log.
use Rattle.std.specs.Prelude.{◌≡◌, ℕ, ◌+◌, ◌<◌, List, [], ◌∷◌, length, Option, None, Some, slice_get, slice_index_or}
use Rattle.abt_net.specs.declared.conn.Conn.{Conn}
use Rattle.abt_net.specs.Topology.{Topology, conn_at}
use Rattle.abt_journal.specs.declared.entry.Entry.{Entry}
use Rattle.abt_model.specs.declared.entry.SourceEntry.{SourceEntry}
use Rattle.abt_model.specs.declared.entry.SourceEntry.TheVariants.{Did}
use Rattle.abt_model.specs.declared.journal.SourceJournal.{SourceJournal}
use Rattle.abt_journal_text.specs.Books.{Told, IsToldRun}
use Rattle.abt_journal_text.specs.declared.run.Run.{Run}
use Rattle.abt_derive.specs.Restarts.{IsRestarted}
use Rattle.abt_weave.specs.declared.actor.Actor.{Actor}
use Rattle.abt_weave.specs.declared.actor.Actor.TheVariants.{Source, Port}
use Rattle.abt_audit.specs.Parts.{no_entries}
use Rattle.abt_audit.specs.Protocol.{port_answer}
use Rattle.abt_audit.specs.Settling.{FitsTo, IsSettledRun}
use Rattle.abt_audit.specs.declared.one_log.LogVerdict.{LogVerdict}
use Rattle.abt_audit.specs.declared.one_log.LogVerdict.TheVariants.{Absent, Obeys, Differs}

-- A port obeys in so many entries: each has the reply that the port gives to its input, after the inputs of the entries before.
abbrev pub PortObeys : Topology → (p : ℕ) → List Entry → (count : ℕ) → Type 0
PortObeys net p entries count =
    (place : ℕ) (entry : Entry) → place < count → slice_get entries place ≡ Some entry → port_answer net p entries place ≡ Some entry.reply

-- The entry of a place is the first that doesn't obey, of so many.
pub record IsFirstToDiffer (obeys : ℕ → Type 0) (place count : ℕ) : Type 0 where
  pub within : place < count
  pub before : obeys place
  pub not_there : obeys (place + 1) → ⊥

-- What is found of a log of so many entries that is there: it obeys in all of them, or differs at one first.
abbrev pub IsVerdictOf : (obeys : ℕ → Type 0) → (count : ℕ) → LogVerdict → Type 0
IsVerdictOf obeys count Absent = ⊥
IsVerdictOf obeys count Obeys = obeys count
IsVerdictOf obeys count (Differs place) = IsFirstToDiffer obeys place count

abbrev pub IsPortVerdict : Topology → (p : ℕ) → Option (List Entry) → LogVerdict → Type 0
IsPortVerdict net p None verdict = verdict ≡ Absent
IsPortVerdict net p (Some entries) verdict = IsVerdictOf (PortObeys net p entries) (length entries) verdict

-- A source obeys in so many entries if they have the outcomes that the source gives (FitsTo).
abbrev pub IsSourceVerdict : Option Conn → Option SourceJournal → LogVerdict → Type 0
IsSourceVerdict (Some conn) (Some journal) verdict = IsVerdictOf (FitsTo conn.vc journal.entries) (length journal.entries) verdict
IsSourceVerdict conn journal verdict = verdict ≡ Absent

-- What is found of the log of a port or a source in a run; of none, that it is absent.
abbrev pub IsLogVerdict : Run → Actor → LogVerdict → Type 0
IsLogVerdict run (Port p) verdict = IsPortVerdict run.net p (slice_get run.journals p) verdict
IsLogVerdict run (Source c) verdict = IsSourceVerdict (conn_at run.net c) (slice_get run.sources.items c) verdict

-- A run of what was told, whose logs can be judged alone: its sources have crashed before they start again, and what it leaves open is
-- settled by what each source did next.
pub record IsJudgedRun (told : Told) (read run : Run) : Type 0 where
  pub is_read : IsToldRun told read
  pub restarted : Run
  pub is_restarted : IsRestarted read restarted
  pub is_settled : IsSettledRun restarted run

-- how many entries say that a source did something
abbrev pub deeds : List SourceEntry → ℕ
deeds [] = 0
deeds (Did event told ∷ more) = deeds more + 1
deeds (entry ∷ more) = deeds more

-- how many entries of a log are judged: all steps of a port, and what a source did
abbrev pub entries_judged : Run → Actor → ℕ
entries_judged run (Port p) = length (slice_index_or run.journals p [])
entries_judged run (Source c) = deeds (slice_index_or run.sources.items c no_entries).entries
