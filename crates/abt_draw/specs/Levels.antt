-- Which events have a row, and how far down it is (docs/PICTURES.md, "Drawing").
use Rattle.std.specs.Prelude.{◌≡◌, ℕ, ◌+◌, ◌==◌, ◌||◌, Bool, true, false, List, [], ◌∷◌, length, Option, None, Some}
use Rattle.std.specs.List.{list_any}
use Rattle.abt_model.specs.declared.event.Event.{Event}
use Rattle.abt_net.specs.Topology.{Topology}
use Rattle.abt_draw.specs.Columns.{is_same}
use Rattle.abt_draw.specs.Marks.{actor_of}
use Rattle.abt_draw.specs.declared.actor.Actor.{Actor}
use Rattle.abt_draw.specs.declared.place.Rows.{Rows}

-- somebody has a column
abbrev pub has_column : List Actor → Option Actor → Bool
has_column columns None = false
has_column columns (Some who) = list_any (λ one. is_same one who) columns

-- If connections are named, the events on lifelines that aren't shown have no row.
abbrev pub has_row : (only : List ℕ) → Topology → List Actor → Event → Bool
has_row only net columns event = (length only == 0) || has_column columns (actor_of net event)

-- how many rows there are with one event more
abbrev pub rows_with : (has_row : Bool) → (rows : ℕ) → ℕ
rows_with true rows = rows + 1
rows_with false rows = rows

-- how many rows there are up to each of some events, which is how far down it is, and in the end
abbrev pub levels_from : (Event → Bool) → (rows : ℕ) → List Event → List ℕ
levels_from kept rows [] = []
levels_from kept rows (event ∷ events) = rows_with (kept event) rows ∷ levels_from kept (rows_with (kept event) rows) events

abbrev pub rows_after : (Event → Bool) → (rows : ℕ) → List Event → ℕ
rows_after kept rows [] = rows
rows_after kept rows (event ∷ events) = rows_after kept (rows_with (kept event) rows) events

-- The rows of these events, the first of which is shown first.
pub record AreRows (only : List ℕ) (net : Topology) (columns : List Actor) (first : ℕ) (events : List Event) (rows : Rows) : Type 0 where
  pub first_is : rows.first ≡ first
  pub levels : rows.levels.now ≡ levels_from (has_row only net columns) 0 events
  pub count : rows.count ≡ rows_after (has_row only net columns) 0 events
