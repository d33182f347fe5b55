-- Ports and sources of a run that have ended.
use Rattle.std.specs.Prelude.{◌≡◌, ℕ, List, map, Some, slice_get}
use mathlib.Core.List.{IsPrefix}
use Rattle.abt_net.specs.Topology.{Topology}
use Rattle.abt_journal.specs.Journaled.{Journaled}
use Rattle.abt_model.specs.declared.journal.SourceJournal.{SourceJournal}
use Rattle.abt_history.specs.declared.deed.Deed.{Deed}
use Rattle.abt_history.specs.Ended.{HasPortEnded}
use Rattle.abt_history.specs.Sites.{SiteView}

-- Each port has ended with the journal that it has, by what was seen.
abbrev pub HavePortsEnded : Topology → List Journaled → (front : List Deed) → Type 0
HavePortsEnded net states front =
    (p : ℕ) (state : Journaled) → slice_get states p ≡ Some state →
    (last : List Deed) × IsPrefix last front × HasPortEnded net state.opening.id state.entries last

-- the journal that a source leaves
abbrev pub journal_of : SiteView → SourceJournal
journal_of site = record { entries = site.entries }

-- the journals that sources leave
abbrev pub journals_left : List SiteView → List SourceJournal
journals_left sites = map journal_of sites
