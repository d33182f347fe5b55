-- The cells of a picture, below its bands (docs/PICTURES.md, "Drawing"): each that arrives has an arrow along an axis of time.
use Rattle.std.specs.Prelude.{◌≡◌, ℕ, ◌+◌, ◌-◌, ◌*◌, ◌/◌, ◌==◌, ◌||◌, ◌&&◌, Bool, true, false, if◌then◌else◌, min, max, List, [], ◌∷◌, fold, length, Option, None, Some, codes}
use Rattle.std.specs.Option.{unwrap_or}
use Rattle.abt_text.specs.Text.{Text, ◌⋅◌, decimal}
use Rattle.abt_chart.specs.declared.told.Told.{Told}
use Rattle.abt_gcra.specs.declared.verdict.Verdict.{Verdict}
use Rattle.abt_gcra.specs.declared.verdict.Verdict.TheVariants.{Conforming}
use Rattle.abt_model.specs.declared.event.Event.{Event}
use Rattle.abt_model.specs.declared.event.Event.TheVariants.{Emit, Arrive}
use Rattle.abt_model.specs.declared.outcome.Outcome.{Outcome}
use Rattle.abt_model.specs.declared.outcome.Outcome.TheVariants.{Emitted, Arrived}
use Rattle.abt_draw.specs.Columns.{is_shown}
use Rattle.abt_draw.specs.Elements.{label_text, line_text, told_line_text}
use Rattle.abt_draw.specs.Marks.{beyond}
use Rattle.abt_draw.specs.Visible.{shown_in}
use Rattle.abt_draw.specs.Within.{Holds}
use Rattle.abt_draw.specs.declared.actor.Actor.{Actor}
use Rattle.abt_draw.specs.declared.actor.Actor.TheVariants.{Source}
use Rattle.abt_draw.specs.declared.moment.Scale.{Scale}
use Rattle.abt_draw.specs.declared.way.Way.{Way}
use Rattle.abt_draw.specs.declared.point.Point.{Point}
use Rattle.abt_draw.specs.declared.sheet.Sheet.{Sheet}

-- the moment, in picoseconds, at which an event had a cell of a connection that is shown leave or arrive
abbrev pub moment_of : (only : List ℕ) → Event → Outcome → Option ℕ
moment_of only (Emit c now) (Emitted cell next) = if is_shown only c then Some now else None
moment_of only (Arrive c cell at) (Arrived verdict) = if is_shown only c then Some at else None
moment_of only event outcome = None

-- a scale that has room for a moment more
abbrev pub widened : Option Scale → (moment : ℕ) → Scale
widened None moment = record { first = moment; last = moment }
widened (Some scale) moment = record { first = min scale.first moment; last = max scale.last moment }

abbrev pub with_moment : Option Scale → Option ℕ → Option Scale
with_moment scale None = scale
with_moment scale (Some moment) = Some (widened scale moment)

abbrev pub with_event : (only : List ℕ) → Option Scale → Told → Option Scale
with_event only scale told = with_moment scale (moment_of only told.event told.outcome)

-- So the scale goes from the first moment to the last one, if such cells leave or arrive.
abbrev pub scale_of : Sheet → Option Scale
scale_of sheet = fold (with_event sheet.only.now) None (shown_in sheet)

-- how far along its axis a part of a span is, in tenths of a unit
abbrev pub along_axis : (part span : ℕ) → ℕ
along_axis part span = if span == 0 then 0 else part * 4800 / span

abbrev pub x_at : Scale → (moment : ℕ) → ℕ
x_at scale moment = 1000 + along_axis (min moment scale.last - scale.first) (scale.last - scale.first)

-- the moment at which a cell of connection c left, if an event let it
abbrev pub left_at : (c cell : ℕ) → Event → Outcome → Option ℕ
left_at c cell (Emit d now) (Emitted number next) = if (d == c) && (number == cell) then Some now else None
left_at c cell event outcome = None

abbrev pub or_else : Option ℕ → Option ℕ → Option ℕ
or_else None other = other
or_else (Some moment) other = Some moment

abbrev pub left_in : (c cell : ℕ) → List Told → Option ℕ
left_in c cell [] = None
left_in c cell (told ∷ tolds) = or_else (left_at c cell told.event told.outcome) (left_in c cell tolds)

abbrev pub is_conforming : Verdict → Bool
is_conforming Conforming = true
is_conforming other = false

-- the way of a cell of connection c that an event had arrive
abbrev pub way_of : (c : ℕ) → List Told → Event → Outcome → Option Way
way_of c shown (Arrive d cell at) (Arrived verdict) =
    if d == c then Some (record { cell = cell; left = left_in c cell shown; came = at; is_conforming = is_conforming verdict }) else None
way_of c shown event outcome = None

-- One that the policer found nonconforming is dashed.
abbrev pub way_class : (is_conforming : Bool) → Text
way_class true = codes "way"
way_class false = codes "way bad"

-- what is told of a cell: its number, the moment at which it arrived, and the one at which it left, if it left in an event that is shown
abbrev pub told_of : (cell came : ℕ) → (left : Option ℕ) → Text
told_of cell came None = codes "cell " ⋅ decimal cell ⋅ codes " at " ⋅ decimal came
told_of cell came (Some left) = codes "cell " ⋅ decimal cell ⋅ codes " at " ⋅ decimal came ⋅ codes ", emitted at " ⋅ decimal left

abbrev pub way_words : Way → Text
way_words way = told_of way.cell way.came way.left

-- An arrow goes from the moment at which a cell left, on the upper line, or else from the line's beginning, to that at which it arrived, on
-- the lower one.
abbrev pub way_text : Scale → (y : ℕ) → Option Way → Text
way_text scale y None = []
way_text scale y (Some way) = told_line_text (way_class way.is_conforming)
    (record { x = x_at scale (unwrap_or way.left scale.first); y = y })
    (record { x = x_at scale way.came; y = beyond y 400 })
    (way_words way)

-- Each cell that left has a stroke above the upper line.
abbrev pub left_text : Scale → (y : ℕ) → Option ℕ → Text
left_text scale y None = []
left_text scale y (Some moment) =
    line_text (codes "mark cell") (record { x = x_at scale moment; y = y - 60 }) (record { x = x_at scale moment; y = y })

-- the moment at which an event let a cell of connection c leave
abbrev pub leaving : (c : ℕ) → Event → Outcome → Option ℕ
leaving c (Emit d now) (Emitted cell next) = if d == c then Some now else None
leaving c event outcome = None

-- what is drawn of an event for connection c
abbrev pub cell_text : Scale → (y c : ℕ) → List Told → Told → Text
cell_text scale y c shown told =
    left_text scale y (leaving c told.event told.outcome) ⋅ way_text scale y (way_of c shown told.event told.outcome)

abbrev pub cells_of : Scale → (y c : ℕ) → (shown tolds : List Told) → Text
cells_of scale y c shown [] = []
cells_of scale y c shown (told ∷ tolds) = cell_text scale y c shown told ⋅ cells_of scale y c shown tolds

-- a line from the beginning of the axis to its end
unfoldable pub line_across : (y : ℕ) → Text
line_across y = line_text (codes "ground") (record { x = 1000; y = y }) (record { x = 5800; y = y })

-- the name of a source's strip
unfoldable pub name_text : (y c : ℕ) → Text
name_text y c = label_text (codes "band") (record { x = 60; y = beyond y 230 }) (codes "cells " ⋅ decimal c)

abbrev pub frame_text : (y c : ℕ) → Text
frame_text y c = name_text y c ⋅ line_across y ⋅ line_across (beyond y 400)

-- The strip of a source: its name, the line of what leaves, that of what arrives, and its cells.
abbrev pub strip_text : Scale → (y c : ℕ) → (shown : List Told) → Text
strip_text scale y c shown = frame_text y c ⋅ cells_of scale y c shown shown

-- whether a cell of connection c left or arrived in an event, and in one of some events
abbrev pub is_of : (c : ℕ) → Event → Outcome → Bool
is_of c (Emit d now) (Emitted cell next) = d == c
is_of c (Arrive d cell at) (Arrived verdict) = d == c
is_of c event outcome = false

abbrev pub is_busy : (c : ℕ) → List Told → Bool
is_busy c [] = false
is_busy c (told ∷ tolds) = is_of c told.event told.outcome || is_busy c tolds

-- Each source of which a cell leaves or arrives has its strip, one below the other.
abbrev pub strip_of : Sheet → Scale → (y : ℕ) → Actor → Text
strip_of sheet scale y (Source c) = if is_busy c (shown_in sheet) then strip_text scale y c (shown_in sheet) else []
strip_of sheet scale y other = []

abbrev pub next_of : Sheet → (y : ℕ) → Actor → ℕ
next_of sheet y (Source c) = if is_busy c (shown_in sheet) then beyond y 700 else y
next_of sheet y other = y

abbrev pub strips_text : Sheet → Scale → (y : ℕ) → List Actor → Text
strips_text sheet scale y [] = []
strips_text sheet scale y (who ∷ columns) = strip_of sheet scale y who ⋅ strips_text sheet scale (next_of sheet y who) columns

-- what the strips are, and from which moment to which they go
abbrev pub scale_words : Scale → Text
scale_words scale = codes "Cells, emitted above and arrived below, from " ⋅ decimal scale.first ⋅ codes " to " ⋅ decimal scale.last
    ⋅ codes " ps. A dashed line is a cell that was found nonconforming."

abbrev pub head_text : (upper : ℕ) → Scale → Text
head_text upper scale = label_text (codes "key") (record { x = 60; y = beyond upper 100 }) (scale_words scale)

abbrev pub scaled_text : Sheet → (upper : ℕ) → Option Scale → Text
scaled_text sheet upper None = []
scaled_text sheet upper (Some scale) = head_text upper scale ⋅ strips_text sheet scale (beyond upper 300) sheet.columns.now

abbrev pub cells_text : Sheet → (upper : ℕ) → Text
cells_text sheet upper = scaled_text sheet upper (scale_of sheet)

-- The strips stand somewhere in a picture.
pub record HasCells (sheet : Sheet) (text : Text) : Type 0 where
  pub upper : ℕ
  pub held : Holds text (cells_text sheet upper)
