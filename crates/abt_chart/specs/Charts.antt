-- What a picture of a run shows (docs/PICTURES.md).
use Rattle.std.specs.Prelude.{◌≡◌, ℕ, ◌+◌, List, ◌++◌, length, All, None, Some, IfSome, IfNone, slice_get}
use Rattle.abt_net.specs.Topology.{Topology}
use Rattle.abt_chart.specs.Arrows.{sent_at, brought_at, IsArrival, IsDeparture}
use Rattle.abt_chart.specs.Tellings.{told_after}
use Rattle.abt_chart.specs.declared.told.Told.{Told}
use Rattle.abt_model.specs.Run.{facts_after}
use Rattle.abt_model.specs.declared.event.Event.{Event}
use Rattle.abt_chart.specs.declared.chart.Chart.{Chart}
use Rattle.abt_chart.specs.declared.crossings.Crossing.{Crossing}
use Rattle.abt_chart.specs.Frames.{frames_from, StandsBelow}

-- what event i of a run brings and sends, counted from 0
pub record IsCrossing (told : List Told) (i : ℕ) (crossing : Crossing) : Type 0 where
  pub arrival : IfSome crossing.arrival (IsArrival told i)
  pub no_arrival : IfNone crossing.arrival (brought_at told i ≡ None)
  pub departure : IfSome crossing.departure (IsDeparture told i)
  pub no_departure : IfNone crossing.departure (sent_at told i ≡ None)

-- what so many events, from one on, bring and send
pub record AreCrossings (told : List Told) (first count : ℕ) (crossings : List Crossing) : Type 0 where
  pub count_is : length crossings ≡ count
  pub each : (k : ℕ) (crossing : Crossing) → slice_get crossings k ≡ Some crossing → IsCrossing told (first + k) crossing

-- A picture of the events `shown` of a run, which has others before and after them: what all events of the run told, the messages
-- that the shown ones bring and send, what is held and shaped before, between and after these, and nothing of it above its line.
pub record IsChart (net : Topology) (before shown after : List Event) (chart : Chart) : Type 0 where
  pub told : chart.told ≡ told_after net ((before ++ shown) ++ after)
  pub first : chart.first ≡ length before
  pub crossings : AreCrossings chart.told (length before) (length shown) chart.crossings
  pub frames : chart.frames ≡ frames_from net (facts_after net before) shown
  pub below : All StandsBelow chart.frames
