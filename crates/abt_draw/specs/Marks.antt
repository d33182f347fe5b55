-- The marks of events on the lifelines (docs/PICTURES.md, "Drawing").
use Rattle.std.specs.Prelude.{ℕ, ◌+◌, ◌-◌, ◌^◌, min, Option, None, Some, codes}
use Rattle.abt_text.specs.Text.{Text, ◌⋅◌}
use Rattle.abt_gcra.specs.declared.verdict.Verdict.TheVariants.{Conforming}
use Rattle.abt_node.specs.declared.reply.Back.TheVariants as back
use Rattle.abt_node.specs.declared.reply.Onward.TheVariants as onward
use Rattle.abt_net.specs.Topology.{Topology}
use Rattle.abt_model.specs.Targets.{target_of, hop_met_by}
use Rattle.abt_model.specs.declared.event.Event.{Event}
use Rattle.abt_model.specs.declared.outcome.Heard.TheVariants as heard
use Rattle.abt_model.specs.declared.outcome.Outcome.{Outcome}
use Rattle.abt_model.specs.declared.outcome.Outcome.TheVariants as outcome
use Rattle.abt_model.specs.declared.target.Target.{Target}
use Rattle.abt_model.specs.declared.target.Target.TheVariants as target
use Rattle.abt_chart.specs.declared.message.Stop.TheVariants as stop
use Rattle.abt_draw.specs.Elements.{line_text, rect_text, circle_text}
use Rattle.abt_draw.specs.Places.{actor_at}
use Rattle.abt_draw.specs.declared.actor.Actor.{Actor}
use Rattle.abt_draw.specs.declared.actor.Actor.TheVariants as actor
use Rattle.abt_draw.specs.declared.mark.Mark.{Mark}
use Rattle.abt_draw.specs.declared.mark.Mark.TheVariants.{Start, Crash, Ask, Cell, Set, Refused, Idle}
use Rattle.abt_draw.specs.declared.point.Point.{Point}

-- what an event looks like by its outcome: messages that go on, are turned or are heard have their arrows alone
abbrev pub mark_of : Outcome → Option Mark
mark_of outcome.Started = Some Start
mark_of outcome.Crashed = Some Crash
mark_of (outcome.Asked request) = Some Ask
mark_of (outcome.Repeated request) = Some Ask
mark_of (outcome.Emitted cell next) = Some Cell
mark_of (outcome.Arrived Conforming) = Some Cell
mark_of outcome.CapacitySet = Some Set
mark_of (outcome.NotEnabled cause) = Some Idle
mark_of (outcome.Requested onward.Pass) = None
mark_of (outcome.Answered back.Pass) = None
mark_of outcome.Turned = None
mark_of (outcome.Told heard.Raised) = None
mark_of (outcome.Told heard.Refused) = None
mark_of other = Some Refused

-- on whose lifeline something happens there
abbrev pub lifeline_of : Topology → Target → Option Actor
lifeline_of net (target.Source c event) = actor_at net c stop.Source
lifeline_of net (target.Hop c event) = actor_at net c (stop.Hop (hop_met_by event))
lifeline_of net (target.End c seq) = actor_at net c stop.End
lifeline_of net (target.Port p capacity) = Some (actor.Port p)

abbrev pub actor_of : Topology → Event → Option Actor
actor_of net event = lifeline_of net (target_of event)

abbrev pub class_of : Mark → Text
class_of Start = codes "mark start"
class_of Crash = codes "mark crash"
class_of Ask = codes "mark ask"
class_of Cell = codes "mark cell"
class_of Set = codes "mark set"
class_of Refused = codes "mark refused"
class_of Idle = codes "mark idle"

-- so far from a place, as far as places go
abbrev pub beyond : (place far : ℕ) → ℕ
beyond place far = min (place + far) (2 ^ 64 - 1)

-- a point so far to the left of another one and above it, and so on
abbrev pub above_left : Point → ℕ → Point
above_left at far = record { x = at.x - far; y = at.y - far }

abbrev pub below_right : Point → ℕ → Point
below_right at far = record { x = beyond at.x far; y = beyond at.y far }

abbrev pub below_left : Point → ℕ → Point
below_left at far = record { x = at.x - far; y = beyond at.y far }

abbrev pub above_right : Point → ℕ → Point
above_right at far = record { x = beyond at.x far; y = at.y - far }

-- a cross: two lines
unfoldable pub cross_text : (class : Text) → Point → (arm : ℕ) → Text
cross_text class at arm = line_text class (above_left at arm) (below_right at arm) ⋅ line_text class (below_left at arm) (above_right at arm)

-- a line across a lifeline
unfoldable pub tick_text : (class : Text) → Point → Text
tick_text class at = line_text class (record { x = at.x - 60; y = at.y }) (record { x = beyond at.x 60; y = at.y })

unfoldable pub box_text : (class : Text) → Point → Text
box_text class at = rect_text class (above_left at 40) (record { width = 80; height = 80 })

-- a mark around a point
abbrev pub shape_text : Mark → Point → Text
shape_text Start at = circle_text (class_of Start) at 45
shape_text Ask at = circle_text (class_of Ask) at 30
shape_text Idle at = circle_text (class_of Idle) at 40
shape_text Crash at = cross_text (class_of Crash) at 60
shape_text Cell at = tick_text (class_of Cell) at
shape_text Set at = box_text (class_of Set) at
shape_text Refused at = box_text (class_of Refused) at
