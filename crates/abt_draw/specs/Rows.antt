-- The rows of a picture (docs/PICTURES.md, "Drawing"): each event that is shown has one, with all that it brings and
-- sends, and its outcome.
use Rattle.std.specs.Prelude.{◌≡◌, ◌⊎◌, ℕ, ◌+◌, ◌-◌, ◌/◌, ◌<◌, ◌||◌, nat_lt, false, IsTrue, if◌then◌else◌, [], Option, None, Some, IfSome, codes, slice_get}
use Rattle.abt_text.specs.Text.{Text, ◌⋅◌, decimal}
use Rattle.abt_chart.specs.declared.arrow.Arrival.{Arrival}
use Rattle.abt_chart.specs.declared.arrow.Departure.{Departure}
use Rattle.abt_chart.specs.declared.crossings.Crossing.{Crossing}
use Rattle.abt_chart.specs.declared.message.Kind.{Kind}
use Rattle.abt_chart.specs.declared.message.Kind.TheVariants.{Request, Yes, No}
use Rattle.abt_chart.specs.declared.told.Told.{Told}
use Rattle.abt_draw.specs.Elements.{line_text, group_text}
use Rattle.abt_draw.specs.Levels.{has_row}
use Rattle.abt_draw.specs.Lines.{line_at}
use Rattle.abt_draw.specs.Marks.{mark_of, actor_of, shape_text}
use Rattle.abt_draw.specs.Placed.{Stands, IsAbsent, IsArrow, IsLost, IsUnseen}
use Rattle.abt_draw.specs.Places.{level_of, x_of, y_of}
use Rattle.abt_draw.specs.Within.{Holds}
use Rattle.abt_draw.specs.declared.actor.Actor.{Actor}
use Rattle.abt_draw.specs.declared.arrow.Arrow.{Arrow}
use Rattle.abt_draw.specs.declared.arrow.Lost.{Lost}
use Rattle.abt_draw.specs.declared.arrow.Spot.{Spot}
use Rattle.abt_draw.specs.declared.mark.Mark.{Mark}
use Rattle.abt_draw.specs.declared.point.Point.{Point}
use Rattle.abt_draw.specs.declared.sheet.Sheet.{Sheet}

-- where a column and a level meet
abbrev pub point_of : Sheet → Spot → Point
point_of sheet spot = record { x = x_of sheet.left sheet.step spot.column; y = y_of spot.level }

abbrev pub kind_class : Kind → Text
kind_class Request = codes "request"
kind_class Yes = codes "yes"
kind_class No = codes "no"

-- what came again or late looks older
abbrev pub arrow_class : Arrow → Text
arrow_class arrow = codes "arrow " ⋅ kind_class arrow.message.kind ⋅ (if arrow.again || arrow.late then codes " old" else [])

-- A line goes from where a message was sent to where it came.
abbrev pub DrawsArrow : Sheet → Arrow → Text → Type 0
DrawsArrow sheet arrow text =
    Holds text (line_text (arrow_class arrow) (point_of sheet arrow.from) (point_of sheet arrow.to))

-- The message that an event brings has its arrow, unless its sender or receiver isn't shown.
abbrev pub DrawsArrival : Sheet → (event : ℕ) → Arrival → Text → Type 0
DrawsArrival sheet event arrival text = IsUnseen sheet.net.now sheet.columns.now arrival.message
    ⊎ ((arrow : Arrow) × IsArrow sheet.net.now sheet.columns.now sheet.rows event arrival arrow × DrawsArrow sheet arrow text)

-- where the line of a message that never comes ends: half a column on its way, where no lifeline is
abbrev pub stump_end : Sheet → Lost → Point
stump_end sheet lost = record {
  x = if nat_lt lost.from.column lost.toward
      then x_of sheet.left sheet.step lost.from.column + sheet.step / 2
      else x_of sheet.left sheet.step lost.from.column - sheet.step / 2;
  y = y_of lost.from.level;
}

-- A line goes from where it was sent to there.
abbrev pub DrawsLost : Sheet → Lost → Text → Type 0
DrawsLost sheet lost text =
    Holds text (line_text (codes "stump " ⋅ kind_class lost.message.kind) (point_of sheet lost.from) (stump_end sheet lost))

-- A message that never comes has its stump, unless its sender or receiver isn't shown.
abbrev pub DrawsStump : Sheet → (event : ℕ) → Departure → Text → Type 0
DrawsStump sheet event departure text = IsUnseen sheet.net.now sheet.columns.now departure.message
    ⊎ ((lost : Lost) × IsLost sheet.net.now sheet.columns.now sheet.rows event departure lost × DrawsLost sheet lost text)

-- a message that an event sends, if it comes behind the last row
abbrev pub leaving : (event : ℕ) → Departure → Arrival
leaving event departure = record { message = departure.message; sent = Some event; again = false; late = false }

-- of a message that comes so, if it does
abbrev pub DrawsSent : Sheet → (event : ℕ) → Departure → (came : Option ℕ) → Text → Type 0
DrawsSent sheet event departure None text = DrawsStump sheet event departure text
DrawsSent sheet event departure (Some came) text =
    sheet.rows.count < level_of sheet.rows came → DrawsArrival sheet came (leaving event departure) text

-- The message that an event sends has its stump if it never comes, and its arrow if it comes behind the last row; if
-- it comes in a row, that row has its arrow.
abbrev pub DrawsDeparture : Sheet → (event : ℕ) → Departure → Text → Type 0
DrawsDeparture sheet event departure text = DrawsSent sheet event departure departure.came text

-- The mark of an event is on the lifeline where it happens, or, if that isn't shown, beside the lifelines.
abbrev pub IsBeside : Sheet → (who : Option Actor) → (x : ℕ) → Type 0
IsBeside sheet who x = ((column : ℕ) × Stands sheet.columns.now who column × (x ≡ x_of sheet.left sheet.step column))
    ⊎ (IsAbsent sheet.columns.now who × (x ≡ sheet.left - sheet.step / 2 - 20))

pub record DrawsMark (sheet : Sheet) (event : ℕ) (told : Told) (mark : Mark) (text : Text) : Type 0 where
  pub x : ℕ
  pub beside : IsBeside sheet (actor_of sheet.net.now told.event) x
  pub shape : Holds text (shape_text mark (record { x = x; y = y_of (level_of sheet.rows event) }))

-- What an event brings and sends, and its outcome, are drawn.
pub record DrawsEvent (sheet : Sheet) (event : ℕ) (told : Told) (crossing : Crossing) (text : Text) : Type 0 where
  pub arrival : IfSome crossing.arrival (λ arrival. DrawsArrival sheet event arrival text)
  pub departure : IfSome crossing.departure (λ departure. DrawsDeparture sheet event departure text)
  pub mark : IfSome (mark_of told.outcome) (λ mark. DrawsMark sheet event told mark text)

-- The row of an event is a group that is named by its number, and titled by its line of the explanation.
pub record HasRow (sheet : Sheet) (event : ℕ) (told : Told) (crossing : Crossing) (line text : Text) : Type 0 where
  pub class : Text
  pub content : Text
  pub group : Holds text (group_text class (codes "e" ⋅ decimal (event + 1)) line content)
  pub drawn : DrawsEvent sheet event told crossing content

-- Each event that is shown has its row, unless it is on a lifeline that isn't.
pub record HasRows (sheet : Sheet) (explanation text : Text) : Type 0 where
  pub each : (k : ℕ) (told : Told) (crossing : Crossing) → slice_get sheet.chart.now.told (sheet.rows.first + k) ≡ Some told
      → slice_get sheet.chart.now.crossings k ≡ Some crossing → IsTrue (has_row sheet.only.now sheet.net.now sheet.columns.now told.event)
      → HasRow sheet (sheet.rows.first + k) told crossing (line_at explanation (sheet.rows.first + k)) text
