-- When a list of events is woven from journals.
use Rattle.std.specs.Prelude.{◌≡◌, ℕ, List, reverse, map, slice_get, Some}
use Rattle.abt_net.specs.Topology.{Topology}
use Rattle.abt_model.specs.declared.event.Event.{Event}
use Rattle.abt_journal.specs.declared.entry.Entry.{Entry}
use Rattle.abt_model.specs.declared.journal.SourceJournal.{SourceJournal}
use Rattle.abt_weave.specs.Projections.{step_of, steps_on, entries_on}

-- Events, the oldest first, are woven from journals if they are just these to each port and each source. Who had a step of a
-- port done isn't compared.
pub record IsWoven (net : Topology) (journals : List (List Entry)) (sources : List SourceJournal) (events : List Event) : Type 0 where
  pub ports : (p : ℕ) (entries : List Entry) → slice_get journals p ≡ Some entries → steps_on net p (reverse events) ≡ map step_of entries
  pub conns : (c : ℕ) (journal : SourceJournal) → slice_get sources c ≡ Some journal → entries_on net c (reverse events) ≡ journal.entries
