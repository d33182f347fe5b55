-- A journal of a source, completed: what was written stands there in its order, each entry at its spot, and between these stand entries of
-- what its first port served.
use Rattle.std.specs.Prelude.{◌≡◌, ◌⊎◌, ℕ, ◌+◌, ◌++◌, nat_le, Bool, List, [], ◌∷◌, map, filter_map, Option, None, Some, option_and_then, option_map, slice_get, slice_index_or}
use Rattle.abt_journal_text.specs.declared.spot.Spot.{Spot}
use Rattle.abt_model.specs.declared.entry.SourceEntry.{SourceEntry}
use Rattle.abt_model.specs.declared.entry.SourceEntry.TheVariants.{Did, Sent, Arrived}
use Rattle.abt_derive.specs.Lists.{first_ones, behind_first}
use Rattle.abt_derive.specs.declared.completing.Completed.{Completed}
use Rattle.abt_derive.specs.declared.derived.Derived.{Derived}

-- the spot of the entry of a place
abbrev pub spot_at : List Spot → ℕ → Spot
spot_at spots place = slice_index_or spots place (record { text = 0; line = 0 })

-- the place of the first port's step that an entry tells
abbrev pub place_in : SourceEntry → Option ℕ
place_in (Did event told) = None
place_in (Sent place) = Some place
place_in (Arrived cell place) = Some place

-- An entry of what the first port served, at the spot of that step. The spots of the first port's steps are these.
abbrev pub IsAdded : List Spot → SourceEntry → Spot → Type 0
IsAdded first entry spot = option_and_then (slice_get first) (place_in entry) ≡ Some spot

-- The written entries from a place on are completed to these, which stand at these spots.
abbrev pub Completes : (first spots : List Spot) → (place : ℕ) → (entries full : List SourceEntry) → (full_spots : List Spot) → Type 0
Completes first spots place entries [] [] = entries ≡ []
Completes first spots place entries (entry ∷ full) (spot ∷ more) =
    (IsAdded first entry spot × Completes first spots place entries full more)
    ⊎ ((rest : List SourceEntry) × (entries ≡ entry ∷ rest) × (spot ≡ spot_at spots place) × Completes first spots (place + 1) rest full more)
Completes first spots place entries full more = ⊥

-- What has become of a journal under way is completed by the same entries as before.
abbrev pub Grows : (first : List Spot) → (old new : Completed) → Type 0
Grows first old new =
    (spots : List Spot) (entries : List SourceEntry) → Completes first spots 0 entries old.entries.items old.spots.items
    → Completes first spots 0 entries new.entries.items new.spots.items

-- an entry, and where it stands
pub record Line : Type 0 where
  pub entry : SourceEntry
  pub spot : Spot

abbrev pub entries_of : List Line → List SourceEntry
entries_of lines = map (λ (line : Line). line.entry) lines

abbrev pub spots_in : List Line → List Spot
spots_in lines = map (λ (line : Line). line.spot) lines

-- the line of an entry that is derived: that of its step
abbrev pub line_of : List Spot → Derived → Option Line
line_of first one = option_map (λ (spot : Spot). record { entry = one.entry; spot = spot }) (option_and_then (slice_get first) (place_in one.entry))

abbrev pub derived_lines : List Spot → List Derived → List Line
derived_lines first derived = filter_map (line_of first) derived

-- whether an entry that is derived stands behind no more written ones than so many
abbrev pub stands_by : (place : ℕ) → Derived → Bool
stands_by place one = nat_le one.before place

-- The written entries from a place on, and among them the derived ones: each stands as soon as so many written ones stand before it, and
-- they stay in their order.
abbrev pub full_lines : (first spots : List Spot) → (place : ℕ) → List SourceEntry → List Derived → List Line
full_lines first spots place [] derived = derived_lines first derived
full_lines first spots place (entry ∷ entries) derived =
    derived_lines first (first_ones (stands_by place) derived)
    ++ (record { entry = entry; spot = spot_at spots place }) ∷ full_lines first spots (place + 1) entries (behind_first (stands_by place) derived)

-- A journal under way has these lines more.
pub record HasMore (lines : List Line) (old new : Completed) : Type 0 where
  pub entries : new.entries.items ≡ old.entries.items ++ entries_of lines
  pub spots : new.spots.items ≡ old.spots.items ++ spots_in lines
