-- What the journal of a source tells of its requests and cells. Entries count from 1: so many are there up to one.
use Rattle.std.specs.Prelude.{◌≡◌, ◌==◌, ℕ, ◌+◌, Bool, false, List, [], ◌∷◌, Option, None, Some, filter_map, if◌then◌else◌, nat_eq}
use Rattle.std.specs.List.{enumerate_from}
use Rattle.indexmap.specs.IndexMap as index
use Rattle.abt_model.specs.declared.event.Event.TheVariants.{Emit}
use Rattle.abt_model.specs.declared.outcome.Outcome.TheVariants.{Asked, Emitted}
use Rattle.abt_model.specs.declared.entry.SourceEntry.{SourceEntry}
use Rattle.abt_model.specs.declared.entry.SourceEntry.TheVariants.{Did, Sent, Arrived}
use Rattle.abt_derive.specs.declared.told.Cell.{Cell}
use Rattle.abt_derive.specs.declared.told.Placed.{Placed}
use Rattle.abt_derive.specs.declared.told.Told.{Told}

-- the number of the request that an entry asks
abbrev pub asked_by : SourceEntry → Option ℕ
asked_by (Did event (Asked request)) = Some request.seq
asked_by entry = None

abbrev pub is_number : (seq : ℕ) → Option ℕ → Bool
is_number seq None = false
is_number seq (Some number) = number == seq

abbrev pub asks : (seq : ℕ) → SourceEntry → Bool
asks seq entry = is_number seq (asked_by entry)

-- how many entries there are up to the first that asks a number, of those behind so many
abbrev pub asked_from : (before : ℕ) → List SourceEntry → (seq : ℕ) → Option ℕ
asked_from before [] seq = None
asked_from before (entry ∷ entries) seq = if asks seq entry then Some (before + 1) else asked_from (before + 1) entries seq

abbrev pub asked_in : List SourceEntry → (seq : ℕ) → Option ℕ
asked_in entries seq = asked_from 0 entries seq

-- the same, if the entry up to which there are so many comes behind
abbrev pub noted : Option ℕ → (asks : Bool) → (behind : ℕ) → Option ℕ
noted (Some earlier) asks behind = Some earlier
noted None asks behind = if asks then Some behind else None

-- the cell that left by an entry, up to which there are so many
abbrev pub cell_of : ℕ × SourceEntry → Option Cell
cell_of (behind, Did (Emit c now) (Emitted cell next)) = Some (record { number = cell; at = now; behind = behind })
cell_of (behind, entry) = None

-- the place of a request that an entry tells to be served, and that of a cell
abbrev pub sent_of : ℕ × SourceEntry → Option Placed
sent_of (behind, Sent place) = Some (record { place = place; behind = behind })
sent_of (behind, entry) = None

abbrev pub arrived_of : ℕ × SourceEntry → Option Placed
arrived_of (behind, Arrived cell place) = Some (record { place = place; behind = behind })
arrived_of (behind, entry) = None

-- the cells that left, in their order
abbrev pub cells_in : List SourceEntry → List Cell
cells_in entries = filter_map cell_of (enumerate_from 1 entries)

-- the places of requests that are told to be served, and those of cells
abbrev pub sent_in : List SourceEntry → List Placed
sent_in entries = filter_map sent_of (enumerate_from 1 entries)

abbrev pub arrived_in : List SourceEntry → List Placed
arrived_in entries = filter_map arrived_of (enumerate_from 1 entries)

-- In what is told, the number is noted that an entry asks up to which there are so many, if it asks one.
abbrev pub IsNoted : (old new : Told) → (behind : ℕ) → (asked : Option ℕ) → Type 0
IsNoted old new behind asked =
    (new ≡ record old { asked = new.asked })
    × ((s : ℕ) → index.get nat_eq new.asked s ≡ noted (index.get nat_eq old.asked s) (is_number s asked) behind)

-- This is what such entries tell.
pub record IsToldBy (entries : List SourceEntry) (told : Told) : Type 0 where
  pub asked : (seq : ℕ) → index.get nat_eq told.asked seq ≡ asked_in entries seq
  pub cells : told.cells.items ≡ cells_in entries
  pub sent : told.sent.items ≡ sent_in entries
  pub arrived : told.arrived.items ≡ arrived_in entries
