-- The rows of the entries at which journals are stuck (docs/PICTURES.md, "Drawing"): each has one, below those of the events.
use Rattle.std.specs.Prelude.{◌≡◌, ℕ, ◌+◌, ◌≤◌, Some, codes, slice_get}
use Rattle.abt_text.specs.Text.{Text, ◌⋅◌, decimal}
use Rattle.abt_draw.specs.Elements.{circle_text, group_text}
use Rattle.abt_draw.specs.Marks.{cross_text}
use Rattle.abt_draw.specs.Places.{y_of}
use Rattle.abt_draw.specs.Rows.{IsBeside}
use Rattle.abt_draw.specs.Within.{Holds}
use Rattle.abt_draw.specs.declared.point.Point.{Point}
use Rattle.abt_draw.specs.declared.scene.StuckMark.{StuckMark}
use Rattle.abt_draw.specs.declared.sheet.Sheet.{Sheet}

-- A circle with a cross in it stands on the lifeline of whose journal is stuck, or, if that isn't shown, beside the
-- lifelines, behind the last row of the events.
pub record DrawsStuck (sheet : Sheet) (mark : StuckMark) (text : Text) : Type 0 where
  pub at : Point
  pub beside : IsBeside sheet (Some mark.actor) at.x
  pub below : y_of sheet.rows.count ≤ at.y
  pub circle : Holds text (circle_text (codes "mark stuck") at 70)
  pub cross : Holds text (cross_text (codes "stuck") at 40)

-- The row of such an entry is a group that is named by its number, and titled by what is told of it.
pub record HasStuckRow (sheet : Sheet) (place : ℕ) (mark : StuckMark) (text : Text) : Type 0 where
  pub content : Text
  pub group : Holds text (group_text (codes "stuck") (codes "s" ⋅ decimal (place + 1)) mark.text.now content)
  pub drawn : DrawsStuck sheet mark content

pub record HasStuckRows (sheet : Sheet) (text : Text) : Type 0 where
  pub each : (place : ℕ) (mark : StuckMark) → slice_get sheet.stuck.now place ≡ Some mark → HasStuckRow sheet place mark text
