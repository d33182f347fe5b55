-- What is placed so far.
use Rattle.std.specs.Prelude.{◌≡◌, ℕ, ◌+◌, ◌<◌, slice_get, Bool, true, false, List, ◌++◌, Some, length, reverse, slice_index, sum_by, MatchBool, Vec, map}
use Rattle.std.specs.Global.{Global}
use Rattle.abt_net.specs.Topology.{Topology}
use Rattle.abt_model.specs.declared.event.Event.{Event}
use Rattle.abt_model.specs.declared.outcome.Outcome.{Outcome}
use Rattle.abt_model.specs.Outcomes.{conn_of}
use Rattle.abt_journal.specs.declared.entry.Entry.{Entry}
use Rattle.abt_model.specs.declared.entry.SourceEntry.TheVariants.{Did}
use Rattle.abt_model.specs.declared.journal.SourceJournal.{SourceJournal}
use Rattle.abt_world.specs.Standing.{WorldView, StandsFor}
use Rattle.abt_weave.specs.declared.actor.Actor.{Actor}
use Rattle.abt_weave.specs.declared.actor.Actor.TheVariants.{Source, Port}
use Rattle.abt_weave.specs.Projections.{Visit, past_of, visit, steps_on, entry_made, entries_on}
use Rattle.abt_weave.specs.Stuck.{RunJournals, ArePlaced, AreTurns, Fits, PortMismatches, SourceMismatches}
use Rattle.abt_weave.specs.Actors.{actor_at}
use Rattle.abt_weave.specs.Shown.{AreShown}
use Rattle.abt_weave.specs.Waking.{HasPlaced}
use Rattle.abt_weave.specs.declared.progress.Progress.{Progress}
use Rattle.abt_weave.specs.declared.weave_input.WeaveInput.{WeaveInput}
use Rattle.abt_weave.specs.declared.look.Look.{Look}
use Rattle.abt_weave.specs.declared.look.Look.TheVariants.{Placed, Waits, Mismatches}

abbrev pub journaled : List (Vec Entry Global) → List SourceJournal → RunJournals
journaled ports sources = record { ports = map (λ (entries : Vec Entry Global). entries.items) ports; sources = sources }

-- the journals that are to be woven
abbrev pub run_journals : WeaveInput → RunJournals
run_journals given = journaled given.ports.now given.sources.now

-- The world stands for the events, which are the beginnings of the journals that the places say, and each of them is shown.
pub record IsPlacing (net : Topology) (journals : RunJournals) (events : List Event) (world : WorldView) (sources ports : List ℕ) : Type 0 where
  pub stands : StandsFor net events world
  pub placed : ArePlaced net journals (reverse events)
  pub shown : AreShown net journals (reverse events)
  pub source_count : length sources ≡ length journals.sources
  pub port_count : length ports ≡ length journals.ports
  pub source_places : (c : ℕ) → c < length sources → slice_index sources c ≡ length (entries_on net c (reverse events))
  pub port_places : (p : ℕ) → p < length ports → slice_index ports p ≡ length (steps_on net p (reverse events))

abbrev pub IsProgress : Topology → RunJournals → Progress → Type 0
IsProgress net journals progress = IsPlacing net journals progress.events.items progress.world progress.source_places.items progress.port_places.items

abbrev pub IsProgressOf : WeaveInput → Progress → Type 0
IsProgressOf given progress = IsProgress given.net.now (run_journals given) progress

-- how many entries are placed
abbrev pub total : List ℕ → ℕ
total places = sum_by (λ place. place) places

abbrev pub count : Progress → ℕ
count progress = total progress.source_places.items + total progress.port_places.items

-- how many entries there are
abbrev pub whole : List (Vec Entry Global) → List SourceJournal → ℕ
whole ports sources = sum_by (λ (journal : SourceJournal). length journal.entries) sources + sum_by (λ (entries : Vec Entry Global). length entries.items) ports

-- No event that fits behind the events, also after Turns, is the next entry of a source; and whether that entry mismatches.
pub record IsSourceSettled (net : Topology) (journals : RunJournals) (earlier : List Event) (c : ℕ) (mismatches : Bool) : Type 0 where
  pub stuck : (turns : List Event) (event done : Event) (outcome : Outcome) → AreTurns net earlier turns → conn_of event ≡ Some c →
      entry_made net (turns ++ earlier) event ≡ Some (Did done outcome) → Fits net journals (turns ++ earlier) event → ⊥
  pub marks : MatchBool mismatches (SourceMismatches net journals earlier c) (SourceMismatches net journals earlier c → ⊥)

-- No event that fits behind the events, also after Turns, is the next entry of a port; and whether that entry
-- mismatches.
pub record IsPortSettled (net : Topology) (journals : RunJournals) (earlier : List Event) (p : ℕ) (mismatches : Bool) : Type 0 where
  pub stuck : (turns : List Event) (event : Event) (v : Visit) → AreTurns net earlier turns → visit net (past_of net (turns ++ earlier)) event ≡ Some v → v.port ≡ p →
      Fits net journals (turns ++ earlier) event → ⊥
  pub marks : MatchBool mismatches (PortMismatches net journals earlier p) (PortMismatches net journals earlier p → ⊥)

-- nothing that fits behind the events is the next entry of an actor, and whether that entry mismatches
abbrev pub IsActorSettled : Topology → RunJournals → List Event → Actor → Bool → Type 0
IsActorSettled net journals earlier (Source c) mismatches = IsSourceSettled net journals earlier c mismatches
IsActorSettled net journals earlier (Port p) mismatches = IsPortSettled net journals earlier p mismatches

-- what a look at an actor does, with settled saying whether its entry is stuck, and mismatches
abbrev pub IsAfterLook : Topology → RunJournals → (List Event → Bool → Type 0) → (old new : Progress) → Look → Type 0
IsAfterLook net journals settled old new (Placed event) = IsProgress net journals new × (count old < count new) × HasPlaced net event old.events.items new.events.items
IsAfterLook net journals settled old new Waits = IsProgress net journals new × (new.events.items ≡ old.events.items) × (count new ≡ count old) × settled (reverse old.events.items) false
IsAfterLook net journals settled old new Mismatches = IsProgress net journals new × (new.events.items ≡ old.events.items) × (count new ≡ count old) × settled (reverse old.events.items) true

-- whether a look saw a mismatch
abbrev pub is_mismatch : Look → Bool
is_mismatch (Placed event) = false
is_mismatch Waits = false
is_mismatch Mismatches = true

-- each actor with a number below this one is settled, and its mark says whether its entry mismatches
pub record AreSettled (net : Topology) (journals : RunJournals) (earlier : List Event) (n : ℕ) (marks : List Bool) : Type 0 where
  pub count_is : length marks ≡ n
  pub each : (i : ℕ) (b : Bool) → slice_get marks i ≡ Some b → IsActorSettled net journals earlier (actor_at net i) b
