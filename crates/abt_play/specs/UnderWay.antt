-- Messages that are sent, and those that are under way.
use Rattle.std.specs.Prelude.{◌≡◌, ℕ, ◌-◌, ◌==◌, Bool, false, if◌then◌else◌, List, [], ◌∷◌, flat_map, count_by, slice_get, Option, Some, None, Vec}
use Rattle.std.specs.List.{remove}
use Rattle.std.specs.declared.alloc.Global.{Global}
use Rattle.abt_model.specs.Outcomes.{conn_of}
use Rattle.abt_model.specs.declared.event.Event.{Event}
use Rattle.abt_plans.specs.declared.chances.Fate.{Fate}
use Rattle.abt_plans.specs.declared.chances.Fate.TheVariants.{Lost, Once, Twice}
use Rattle.abt_play.specs.declared.parcel.Parcel.{Parcel}

-- both copies of a message, each of which may be repeated so often
abbrev pub both : Event → ℕ → List Parcel
both event repeats = record { event = event; repeats = repeats } ∷ record { event = event; repeats = repeats } ∷ []

-- A message that comes twice; each copy, and what follows it, may be repeated once less often. One that may not be repeated comes once.
abbrev pub doubled : Parcel → List Parcel
doubled parcel = if parcel.repeats == 0 then parcel ∷ [] else both parcel.event (parcel.repeats - 1)

-- what comes of a message that is sent
abbrev pub copies : Fate → Parcel → List Parcel
copies Lost parcel = []
copies Once parcel = parcel ∷ []
copies Twice parcel = doubled parcel

-- A message comes, by its place, and the others stay under way.
pub record IsTaken (place : ℕ) (old new : List Parcel) (parcel : Parcel) : Type 0 where
  pub there : slice_get old place ≡ Some parcel
  pub others : new ≡ remove old place

-- whether that is this connection
abbrev pub is_conn : (c : ℕ) → Option ℕ → Bool
is_conn c None = false
is_conn c (Some other) = other == c

-- what one of a connection adds to the count of those of another
abbrev pub one_of : (c : ℕ) → Option ℕ → ℕ
one_of c conn = if is_conn c conn then 1 else 0

-- whether it is a message of this connection
abbrev pub is_of : (c : ℕ) → Parcel → Bool
is_of c parcel = is_conn c (conn_of parcel.event)

-- how many messages of a connection there are
abbrev pub count_of : (c : ℕ) → List Parcel → ℕ
count_of c parcels = count_by (is_of c) parcels

-- the messages of some blocks, one block behind the other
abbrev pub joined : List (Vec Parcel Global) → List Parcel
joined blocks = flat_map (λ block. block.items) blocks
