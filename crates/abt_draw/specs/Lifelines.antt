-- The lifelines of a picture: each column has one, under the name of whose it is (docs/PICTURES.md, "Drawing").
use Rattle.std.specs.Prelude.{◌≡◌, ◌≤◌, ℕ, Some, codes, slice_get}
use Rattle.abt_text.specs.Text.{Text, decimal}
use Rattle.abt_draw.specs.Elements.{line_text, label_text}
use Rattle.abt_draw.specs.Places.{x_of, y_of}
use Rattle.abt_draw.specs.Within.{Holds}
use Rattle.abt_draw.specs.declared.actor.Actor.{Actor}
use Rattle.abt_draw.specs.declared.actor.Actor.TheVariants.{Source, Port, End}
use Rattle.abt_draw.specs.declared.sheet.Sheet.{Sheet}

abbrev pub kind_name : Actor → Text
kind_name (Source c) = codes "source"
kind_name (Port p) = codes "port"
kind_name (End c) = codes "end"

abbrev pub number_of : Actor → ℕ
number_of (Source c) = c
number_of (Port p) = p
number_of (End c) = c

-- What an actor is and its number stand in the middle of its column, and below them a line goes down behind the last row.
pub record HasLifeline (sheet : Sheet) (column : ℕ) (who : Actor) (text : Text) : Type 0 where
  pub kind : Holds text (label_text (codes "name") (record { x = x_of sheet.left sheet.step column; y = 150 }) (kind_name who))
  pub number : Holds text (label_text (codes "name") (record { x = x_of sheet.left sheet.step column; y = 260 }) (decimal (number_of who)))
  pub lower : ℕ
  pub behind : y_of sheet.rows.count ≤ lower
  pub line : Holds text (line_text (codes "life") (record { x = x_of sheet.left sheet.step column; y = y_of 0 }) (record { x = x_of sheet.left sheet.step column; y = lower }))

pub record HasLifelines (sheet : Sheet) (text : Text) : Type 0 where
  pub each : (column : ℕ) (who : Actor) → slice_get sheet.columns.now column ≡ Some who → HasLifeline sheet column who text
