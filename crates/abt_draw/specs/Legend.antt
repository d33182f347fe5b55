-- The legend of a picture, below its bands (docs/PICTURES.md, "Drawing"): what each mark means, and the units of its numbers.
use Rattle.std.specs.Prelude.{codes}
use Rattle.abt_text.specs.Text.{Text}
use Rattle.abt_draw.specs.Elements.{circle_text, label_text}
use Rattle.abt_draw.specs.Marks.{cross_text, shape_text}
use Rattle.abt_draw.specs.Within.{Holds}
use Rattle.abt_draw.specs.declared.mark.Mark.{Mark}
use Rattle.abt_draw.specs.declared.mark.Mark.TheVariants.{Start, Crash, Ask, Cell, Set, Refused, Idle}
use Rattle.abt_draw.specs.declared.point.Point.{Point}

abbrev pub meaning_of : Mark → Text
meaning_of Start = codes "a source starts"
meaning_of Crash = codes "a source crashes"
meaning_of Ask = codes "a request is sent"
meaning_of Cell = codes "a cell leaves or comes"
meaning_of Set = codes "a capacity is set"
meaning_of Refused = codes "refused or dropped"
meaning_of Idle = codes "couldn't happen"

-- Such words stand somewhere.
pub record HasWords (words text : Text) : Type 0 where
  pub place : Point
  pub label : Holds text (label_text (codes "key") place words)

-- A mark stands somewhere, and what it means.
pub record HasKey (mark : Mark) (text : Text) : Type 0 where
  pub at : Point
  pub shape : Holds text (shape_text mark at)
  pub meaning : HasWords (meaning_of mark) text

abbrev pub stuck_is : Text
stuck_is = codes "a journal is stuck"

-- The circle with a cross of an entry at which a journal is stuck stands somewhere, and what it means.
pub record HasStuckKey (text : Text) : Type 0 where
  pub at : Point
  pub circle : Holds text (circle_text (codes "mark stuck") at 70)
  pub cross : Holds text (cross_text (codes "stuck") at 40)
  pub meaning : HasWords stuck_is text

-- the units of rates and of times
abbrev pub rates_are : Text
rates_are = codes "c0 r1 is request 1 of connection 0. Rates are in cells/s; a + stands for a fraction. Behind refuses and capacity they are in 1/512 cell/s."

abbrev pub times_are : Text
times_are = codes "Times are in picoseconds, unless an s for seconds stands behind them."

-- Each mark has its key, and the units are told.
pub record HasLegend (text : Text) : Type 0 where
  pub marks : (mark : Mark) → HasKey mark text
  pub stuck : HasStuckKey text
  pub rates : HasWords rates_are text
  pub times : HasWords times_are text
