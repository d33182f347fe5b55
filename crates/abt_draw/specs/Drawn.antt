-- Which events are drawn, and why none are (docs/PICTURES.md, "Drawing").
use Rattle.std.specs.Prelude.{◌≡◌, ◌⊎◌, ⊤, ℕ, ◌+◌, ◌-◌, ◌*◌, ◌^◌, ◌<◌, ◌≤◌, IsSome, List, length, Option, Some, slice_get, unwrap_or}
use Rattle.abt_text.specs.Text.{Text}
use Rattle.abt_perform.specs.Plans.{Tells}
use Rattle.abt_net.specs.Topology.{Topology}
use Rattle.abt_model.specs.declared.event.Event.{Event}
use Rattle.abt_scenario.specs.declared.engine.EngineFault.TheVariants.{Memory}
use Rattle.abt_draw.specs.Columns.{columns_of}
use Rattle.abt_draw.specs.declared.fault.DrawFault.{DrawFault}
use Rattle.abt_draw.specs.declared.fault.DrawFault.TheVariants.{Engine, Only, Range, Events, Numbers, Columns}
use Rattle.abt_draw.specs.declared.place.Span.{Span}
use Rattle.abt_plans.specs.declared.picture.PicturePlan.{PicturePlan}

-- the first event that is shown, counted from 1, and the last one
abbrev pub first_of : PicturePlan → ℕ
first_of plan = unwrap_or plan.from 1

abbrev pub last_of : PicturePlan → (events : ℕ) → ℕ
last_of plan events = unwrap_or plan.to events

-- how many of so many events are shown
abbrev pub shown_of : PicturePlan → (events : ℕ) → ℕ
shown_of plan events = last_of plan events + 1 - first_of plan

-- A range of so many events: the first at or before the last. Where neither is named all are meant, and these may be none.
pub record IsRange (plan : PicturePlan) (events : ℕ) : Type 0 where
  pub begins : 1 ≤ first_of plan
  pub ends : last_of plan events ≤ events
  pub in_order : first_of plan ≤ last_of plan events + 1
  pub some : IsSome plan.from ⊎ IsSome plan.to → first_of plan ≤ last_of plan events

-- Each connection that is named is one of so many.
abbrev pub AreKnown : (only : List ℕ) → (conns : ℕ) → Type 0
AreKnown only conns = (place conn : ℕ) → slice_get only place ≡ Some conn → conn < conns

-- This one is named, and isn't; those that are named before it are.
pub record IsUnknown (only : List ℕ) (conns conn : ℕ) : Type 0 where
  pub place : ℕ
  pub named : slice_get only place ≡ Some conn
  pub beyond : conns ≤ conn
  pub first : (k other : ℕ) → k < place → slice_get only k ≡ Some other → other < conns

-- the range as places from 0: of the first event that is shown, and behind the last one
pub record IsShownRange (plan : PicturePlan) (events first last : ℕ) : Type 0 where
  pub is_range : IsRange plan events
  pub first_is : first + 1 ≡ first_of plan
  pub last_is : last ≡ last_of plan events
  pub few : last ≤ first + 2000

-- why no range of so many events is shown
abbrev pub IsUndrawnRange : PicturePlan → (events : ℕ) → DrawFault → Type 0
IsUndrawnRange plan events (Range count) = (count ≡ events) × (IsRange plan events → ⊥)
IsUndrawnRange plan events (Events count) =
    IsRange plan events × (count + first_of plan ≡ last_of plan events + 1) × (2000 < count)
IsUndrawnRange plan events other = ⊥

-- The events that are named are some of these, and at most 2000, and each connection that is named is one of the net's.
pub record IsNamed (plan : PicturePlan) (net : Topology) (events : ℕ) : Type 0 where
  pub known : AreKnown plan.only.items (length net.conns)
  pub range : IsRange plan events
  pub few : last_of plan events + 1 ≤ first_of plan + 2000

-- how many numbers the bands of so many events have: before the first and behind each, one for each connection at each port, one for each
-- port, and one for each connection
abbrev pub numbers_of : Topology → (events : ℕ) → ℕ
numbers_of net events = (events + 1) * (length net.capacities * length net.conns + length net.capacities + length net.conns)

abbrev pub numbers_shown : PicturePlan → Topology → (events : ℕ) → ℕ
numbers_shown plan net events = numbers_of net (shown_of plan events)

abbrev pub numbers_max : ℕ
numbers_max = 2 ^ 26

abbrev pub columns_shown : PicturePlan → Topology → ℕ
columns_shown plan net = length (columns_of net plan.only.items)

-- What is named there is, and there is room for its bands.
pub record IsPlaced (plan : PicturePlan) (net : Topology) (events : ℕ) : Type 0 where
  pub named : IsNamed plan net events
  pub numbers : numbers_shown plan net events ≤ numbers_max

-- The span is that of the events that are named.
pub record IsSpan (plan : PicturePlan) (net : Topology) (events : ℕ) (span : Span) : Type 0 where
  pub placed : IsPlaced plan net events
  pub first : span.first + 1 ≡ first_of plan
  pub last : span.first + span.count ≡ last_of plan events

-- There is room for the columns too.
pub record IsDrawn (plan : PicturePlan) (net : Topology) (events : List Event) : Type 0 where
  pub placed : IsPlaced plan net (length events)
  pub columns : columns_shown plan net ≤ 1024

-- why so many events aren't drawn: what is named comes first, and then the room for the bands
abbrev pub IsUnplaced : PicturePlan → Topology → (events : ℕ) → DrawFault → Type 0
IsUnplaced plan net events (Only conn) = IsUnknown plan.only.items (length net.conns) conn
IsUnplaced plan net events (Range count) = AreKnown plan.only.items (length net.conns) × IsUndrawnRange plan events (Range count)
IsUnplaced plan net events (Events count) = AreKnown plan.only.items (length net.conns) × IsUndrawnRange plan events (Events count)
IsUnplaced plan net events Numbers = IsNamed plan net events × (numbers_max < numbers_shown plan net events)
IsUnplaced plan net events other = ⊥

-- why nothing is drawn of these events: behind these faults come want of memory, and the room for the columns
abbrev pub IsUndrawn : PicturePlan → Topology → List Event → DrawFault → Type 0
IsUndrawn plan net events (Engine engine) = IsPlaced plan net (length events) × (engine ≡ Memory)
IsUndrawn plan net events Columns = IsPlaced plan net (length events) × (1024 < columns_shown plan net)
IsUndrawn plan net events other = IsUnplaced plan net (length events) other

-- The fault is found before any memory is asked for.
abbrev pub IsFoundFirst : DrawFault → Type 0
IsFoundFirst Columns = ⊥
IsFoundFirst (Engine engine) = ⊥
IsFoundFirst other = ⊤

-- Some text was told, as far as it was taken.
abbrev pub TellsSome : (old new : Option Text) → Type 0
TellsSome old new = (text : Text) × Tells text old new
