-- Runs that have ended.
use Rattle.std.specs.Prelude.{◌≡◌, ℕ, ◌<◌, true, false, List, map, slice_get, Some, All}
use mathlib.Core.List.{IsPrefix}
use Rattle.abt_net.specs.Topology.{Topology}
use Rattle.abt_model.specs.declared.event.Event.{Event}
use Rattle.abt_model.specs.declared.journal.SourceJournal.{SourceJournal}
use Rattle.abt_model.specs.declared.entry.SourceEntry.{SourceEntry}
use Rattle.abt_model.specs.Events.{AsksRate}
use Rattle.abt_journal.specs.declared.entry.Entry.{Entry}
use Rattle.abt_weave.specs.Projections.{step_of, steps_on, entries_on}
use Rattle.abt_weave.specs.Woven.{IsWoven}
use Rattle.abt_history.specs.declared.deed.Deed.{Deed}
use Rattle.abt_history.specs.Histories.{happened, ends_of_port, is_out, has_ended}

-- a port has ended with this journal, and a source with this one
pub record HasPortEnded (net : Topology) (p : ℕ) (entries : List Entry) (front : List Deed) : Type 0 where
  pub ended : 0 < ends_of_port p front
  pub steps : steps_on net p (happened front) ≡ map step_of entries

pub record HasSourceEnded (net : Topology) (c : ℕ) (entries : List SourceEntry) (front : List Deed) : Type 0 where
  pub ended : has_ended c front ≡ true
  pub home : is_out c front ≡ false
  pub did : entries_on net c (happened front) ≡ entries

-- each port and each source has ended, with what its journal has
pub record AreEnded (net : Topology) (journals : List (List Entry)) (sources : List SourceJournal) (log : List Deed) : Type 0 where
  pub ports : (p : ℕ) (entries : List Entry) → slice_get journals p ≡ Some entries →
      (front : List Deed) × IsPrefix front log × HasPortEnded net p entries front
  pub conns : (c : ℕ) (journal : SourceJournal) → slice_get sources c ≡ Some journal →
      (front : List Deed) × IsPrefix front log × HasSourceEnded net c journal.entries front

-- The journals of a run are one list of events that code can name.
abbrev pub CanBeWoven : Topology → List (List Entry) → List SourceJournal → Type 0
CanBeWoven net journals sources = (events : List Event) × All AsksRate events × IsWoven net journals sources events
