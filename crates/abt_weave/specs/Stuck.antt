-- When events stand still before journals, and which entries are then stuck or mismatch. Events are listed with the newest first.
use Rattle.std.specs.Prelude.{◌≡◌, ◌≢◌, ℕ, List, [], ◌∷◌, ◌++◌, length, map, slice_get, Option, None, Some, ◌⊎◌}
use Rattle.abt_net.specs.Topology.{Topology}
use Rattle.abt_model.specs.declared.event.Event.{Event}
use Rattle.abt_model.specs.declared.event.Event.TheVariants.{Turn}
use Rattle.abt_model.specs.declared.outcome.Outcome.{Outcome}
use Rattle.abt_model.specs.declared.outcome.Outcome.TheVariants.{Turned}
use Rattle.abt_model.specs.Outcomes.{conn_of, outcome_of}
use Rattle.abt_journal.specs.declared.entry.Entry.{Entry}
use Rattle.abt_model.specs.declared.entry.SourceEntry.{SourceEntry}
use Rattle.abt_model.specs.declared.entry.SourceEntry.TheVariants.{Did}
use Rattle.abt_model.specs.declared.journal.SourceJournal.{SourceJournal}
use Rattle.abt_weave.specs.Projections.{Step, step_of, Visit, past_of, visit, steps_on, entry_made, entries_on}

-- the journals of all ports and of all sources of a net
pub record RunJournals : Type 0 where
  pub ports : List (List Entry)
  pub sources : List SourceJournal

abbrev pub steps_in : Option (List Entry) → List Step
steps_in None = []
steps_in (Some entries) = map step_of entries

abbrev pub entries_in : Option SourceJournal → List SourceEntry
entries_in None = []
entries_in (Some journal) = journal.entries

-- the journal of a port as steps, and that of a source
abbrev pub port_journal : RunJournals → ℕ → List Step
port_journal journals p = steps_in (slice_get journals.ports p)

abbrev pub source_journal : RunJournals → ℕ → List SourceEntry
source_journal journals c = entries_in (slice_get journals.sources c)

-- the next entries after events that are the beginning of the journals
abbrev pub next_step : Topology → RunJournals → List Event → ℕ → Option Step
next_step net journals earlier p = slice_get (port_journal journals p) (length (steps_on net p earlier))

abbrev pub next_entry : Topology → RunJournals → List Event → ℕ → Option SourceEntry
next_entry net journals earlier c = slice_get (source_journal journals c) (length (entries_on net c earlier))

-- a visit as the next step of its port
abbrev pub step_next : Topology → List Event → Visit → Step
step_next net earlier visit = record { place = length (steps_on net visit.port earlier); input = visit.input; reply = visit.reply }

-- What an event is to its port and to its source, one of them at least, is the next entry there.
pub record Fits (net : Topology) (journals : RunJournals) (earlier : List Event) (event : Event) : Type 0 where
  pub falls : (visit net (past_of net earlier) event ≢ None) ⊎ (entry_made net earlier event ≢ None)
  pub step : (v : Visit) → visit net (past_of net earlier) event ≡ Some v → next_step net journals earlier v.port ≡ Some (step_next net earlier v)
  pub entry : (c : ℕ) (x : SourceEntry) → conn_of event ≡ Some c → entry_made net earlier event ≡ Some x → next_entry net journals earlier c ≡ Some x

-- a request that the last hop passed is turned into a yes
pub record IsTurn (net : Topology) (earlier : List Event) (event : Event) : Type 0 where
  pub conn : ℕ
  pub seq : ℕ
  pub is : event ≡ Turn conn seq
  pub happens : outcome_of net (past_of net earlier) event ≡ Turned

abbrev pub AreTurns : Topology → List Event → List Event → Type 0
AreTurns net earlier [] = Unit {0}
AreTurns net earlier (event ∷ turns) = IsTurn net (turns ++ earlier) event × AreTurns net earlier turns

-- the first list is the beginning of the second
abbrev pub IsBeginning : {A : Type 0} → List A → List A → Type 0
IsBeginning {A} xs ys = (rest : List A) × (ys ≡ xs ++ rest)

-- the events are beginnings of the journals
pub record ArePlaced (net : Topology) (journals : RunJournals) (earlier : List Event) : Type 0 where
  pub ports : (p : ℕ) → IsBeginning (steps_on net p earlier) (port_journal journals p)
  pub conns : (c : ℕ) → IsBeginning (entries_on net c earlier) (source_journal journals c)

-- Events stand still if they are beginnings of the journals, and nothing fits behind them, also after Turns.
pub record StandsStill (net : Topology) (journals : RunJournals) (earlier : List Event) : Type 0 where
  pub placed : ArePlaced net journals earlier
  pub still : (turns : List Event) → AreTurns net earlier turns → (event : Event) → Fits net journals (turns ++ earlier) event → ⊥

-- The next entry of a port mismatches if some event, also after Turns, would be this entry but for the reply.
pub record PortMismatches (net : Topology) (journals : RunJournals) (earlier : List Event) (p : ℕ) : Type 0 where
  pub turns : List Event
  pub turned : AreTurns net earlier turns
  pub event : Event
  pub visits : Visit
  pub comes : visit net (past_of net (turns ++ earlier)) event ≡ Some visits
  pub here : visits.port ≡ p
  pub step : Step
  pub next : next_step net journals (turns ++ earlier) p ≡ Some step
  pub place : step.place ≡ length (steps_on net p (turns ++ earlier))
  pub input : step.input ≡ visits.input
  pub beside : (c : ℕ) (x : SourceEntry) → conn_of event ≡ Some c → entry_made net (turns ++ earlier) event ≡ Some x → next_entry net journals (turns ++ earlier) c ≡ Some x

-- The next entry of a source mismatches if some event, also after Turns, would be this entry but for the outcome.
pub record SourceMismatches (net : Topology) (journals : RunJournals) (earlier : List Event) (c : ℕ) : Type 0 where
  pub turns : List Event
  pub turned : AreTurns net earlier turns
  pub event : Event
  pub here : conn_of event ≡ Some c
  pub outcome : Outcome
  pub does : entry_made net (turns ++ earlier) event ≡ Some (Did event outcome)
  pub told : Outcome
  pub next : next_entry net journals (turns ++ earlier) c ≡ Some (Did event told)
