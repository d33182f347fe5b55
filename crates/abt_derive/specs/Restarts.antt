-- Journals of sources that start again after a crash which nobody wrote down (docs/JOURNALS.md, "What may be left out").
use Rattle.std.specs.Prelude.{◌≡◌, ℕ, ◌+◌, ◌++◌, Bool, true, false, List, [], ◌∷◌, length, map, Option, None, Some, option_to_list, slice_index_or}
use Rattle.abt_journal_text.specs.Books.{lists_of}
use Rattle.abt_journal_text.specs.declared.open_write.OpenWrite.{OpenWrite}
use Rattle.abt_journal_text.specs.declared.run.Run.{Run}
use Rattle.abt_journal_text.specs.declared.spot.Spot.{Spot}
use Rattle.abt_model.specs.declared.event.Event.TheVariants.{Start, Crash}
use Rattle.abt_model.specs.declared.outcome.Outcome.TheVariants.{Started, Crashed}
use Rattle.abt_model.specs.declared.entry.SourceEntry.{SourceEntry}
use Rattle.abt_model.specs.declared.entry.SourceEntry.TheVariants.{Did}
use Rattle.abt_model.specs.declared.journal.SourceJournal.{SourceJournal}
use Rattle.abt_derive.specs.Completes.{Line, entries_of, spot_at, spots_in}
use Rattle.abt_derive.specs.Derives.{spots_of}
use Rattle.abt_derive.specs.declared.restarting.AllRestarted.{AllRestarted}
use Rattle.abt_derive.specs.declared.restarting.Restarted.{Restarted}

-- whether a source is up behind an entry, by what the entries tell
abbrev pub up_behind : (up : Bool) → SourceEntry → Bool
up_behind up (Did (Start c now) Started) = true
up_behind up (Did (Crash c) Crashed) = false
up_behind up entry = up

-- the crash that is missing before an entry: a source that is up starts
abbrev pub crash_before : (up : Bool) → SourceEntry → Option SourceEntry
crash_before true (Did (Start c now) Started) = Some (Did (Crash c) Crashed)
crash_before up entry = None

-- lines of entries that stand at one spot
abbrev pub lines_at_spot : Spot → List SourceEntry → List Line
lines_at_spot spot entries = map (λ (entry : SourceEntry). record { entry = entry; spot = spot }) entries

-- the entries from a place on, and each crash that is missing, in the line of the start behind it
abbrev pub restarted_lines : List Spot → (place : ℕ) → (up : Bool) → List SourceEntry → List Line
restarted_lines spots place up [] = []
restarted_lines spots place up (entry ∷ entries) =
    lines_at_spot (spot_at spots place) (option_to_list (crash_before up entry))
    ++ (record { entry = entry; spot = spot_at spots place }) ∷ restarted_lines spots (place + 1) (up_behind up entry) entries

-- how many entries stand before each then, behind so many
abbrev pub places_from : (up : Bool) → (before : ℕ) → List SourceEntry → List ℕ
places_from up before [] = []
places_from up before (entry ∷ entries) =
    (before + length (option_to_list (crash_before up entry)))
    ∷ places_from (up_behind up entry) (before + length (option_to_list (crash_before up entry)) + 1) entries

-- A journal has just the crashes more that are missing, and each of its entries stands at this place then.
pub record IsRestartedOf (spots : List Spot) (entries : List SourceEntry) (made : Restarted) : Type 0 where
  pub entries_are : made.full.entries.items ≡ entries_of (restarted_lines spots 0 false entries)
  pub spots_are : made.full.spots.items ≡ spots_in (restarted_lines spots 0 false entries)
  pub places_are : made.places.items ≡ places_from false 0 entries

-- those of the sources from this number on
abbrev pub restarted_from : List (List Spot) → (c : ℕ) → List SourceJournal → List (List Line)
restarted_from spots c [] = []
restarted_from spots c (journal ∷ more) = restarted_lines (spots_of spots c) 0 false journal.entries ∷ restarted_from spots (c + 1) more

abbrev pub journal_in : List Line → SourceJournal
journal_in lines = record { entries = entries_of lines }

abbrev pub places_in : SourceJournal → List ℕ
places_in journal = places_from false 0 journal.entries

-- what stands at a place of a list; the place itself, if the list is shorter
abbrev pub place_at : List ℕ → (place : ℕ) → ℕ
place_at places place = slice_index_or places place place

-- a write that is left open, where its entry stands among those of these lists of places
abbrev pub moved : List (List ℕ) → OpenWrite → OpenWrite
moved lists write = record write { place = place_at (slice_index_or lists write.source []) write.place }

-- The journals of all sources are so.
pub record AreRestarted (spots : List (List Spot)) (sources : List SourceJournal) (all : AllRestarted) : Type 0 where
  pub sources_are : all.sources.items ≡ map journal_in (restarted_from spots 0 sources)
  pub spots_are : lists_of all.spots ≡ map spots_in (restarted_from spots 0 sources)
  pub places_are : lists_of all.places ≡ map places_in sources

-- that of one source more
pub record HasOneMore (made : Restarted) (old new : AllRestarted) : Type 0 where
  pub sources_are : new.sources.items ≡ old.sources.items ++ record { entries = made.full.entries.items } ∷ []
  pub spots_are : lists_of new.spots ≡ lists_of old.spots ++ made.full.spots.items ∷ []
  pub places_are : lists_of new.places ≡ lists_of old.places ++ made.places.items ∷ []

-- A run in which each source has crashed before it starts again, and all else is as it was.
pub record IsRestarted (told run : Run) : Type 0 where
  pub same : run ≡ record told { sources = run.sources; source_spots = run.source_spots; open_writes = run.open_writes }
  pub sources : run.sources.items ≡ map journal_in (restarted_from (lists_of told.source_spots) 0 told.sources.items)
  pub spots : lists_of run.source_spots ≡ map spots_in (restarted_from (lists_of told.source_spots) 0 told.sources.items)
  pub writes : run.open_writes.items ≡ map (moved (map places_in told.sources.items)) told.open_writes.items
