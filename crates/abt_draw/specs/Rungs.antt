-- The lines of a ladder diagram (docs/PICTURES.md, "As text"). Places of a line count from 0, from left to right.
use Rattle.std.specs.Prelude.{ℕ, zero, suc, ◌+◌, ◌-◌, ◌*◌, ◌%◌, ◌==◌, ◌||◌, ◌&&◌, nat_lt, Bool, if◌then◌else◌, List, [], ◌∷◌, length, Option, None, Some, max, take, codes}
use Rattle.std.specs.Option.{option_map, option_and_then}
use Rattle.std.specs.Fmt.Cut.{floor_char_boundary}
use Rattle.abt_text.specs.Text.{Text, ◌⋅◌, newline}
use Rattle.abt_chart.specs.declared.message.Kind.{Kind}
use Rattle.abt_chart.specs.declared.message.Kind.TheVariants.{Request, Yes, No}
use Rattle.abt_draw.specs.Columns.{is_same}
use Rattle.abt_draw.specs.declared.actor.Actor.{Actor}
use Rattle.abt_draw.specs.declared.mark.Mark.{Mark}
use Rattle.abt_draw.specs.declared.mark.Mark.TheVariants.{Start, Crash, Ask, Cell, Set, Refused, Idle}
use Rattle.abt_draw.specs.declared.rung.Marked.{Marked}
use Rattle.abt_draw.specs.declared.rung.Sign.{Sign}
use Rattle.abt_draw.specs.declared.rung.Sign.TheVariants.{Of, Stuck}
use Rattle.abt_draw.specs.declared.rung.Stroke.{Stroke}
use Rattle.abt_draw.specs.declared.sheet.Sheet.{Sheet}

-- the place of a lifeline: each column is eight signs wide, and its lifeline is the last of them
abbrev pub bar_of : (column : ℕ) → ℕ
bar_of column = 8 * column + 7

-- the first of these columns, which are numbered from one on, that is somebody's
abbrev pub column_from : (column : ℕ) → Actor → List Actor → Option ℕ
column_from column who [] = None
column_from column who (one ∷ rest) = if is_same one who then Some column else column_from (column + 1) who rest

-- where somebody's lifeline is, if there is one
abbrev pub bar_at : List Actor → Option Actor → Option ℕ
bar_at columns who = option_map bar_of (option_and_then (λ actor. column_from 0 actor columns) who)

-- what a mark looks like
abbrev pub mark_sign : Mark → Text
mark_sign Start = codes "o"
mark_sign Crash = codes "X"
mark_sign Ask = codes "*"
mark_sign Cell = codes "+"
mark_sign Set = codes "#"
mark_sign Refused = codes "!"
mark_sign Idle = codes "?"

-- what stands on a lifeline: the mark of an event, or that of an entry at which a journal is stuck
abbrev pub sign_text : Sign → Text
sign_text (Of mark) = mark_sign mark
sign_text Stuck = codes "@"

-- what the line of a message is made of
abbrev pub kind_sign : Kind → Text
kind_sign Request = codes "-"
kind_sign Yes = codes "="
kind_sign No = codes "~"

-- whether a place is between two others
abbrev pub is_between : (from to place : ℕ) → Bool
is_between from to place = (nat_lt from place && nat_lt place to) || (nat_lt to place && nat_lt place from)

-- The line of what came again or late is broken: it has every second sign alone.
abbrev pub line_sign : Stroke → (place : ℕ) → Text
line_sign stroke place = if stroke.is_broken && (place % 2 == 0) then codes " " else kind_sign stroke.kind

-- A line's head points where its message goes; a cross is the head of what never came.
abbrev pub head_sign : Stroke → Text
head_sign stroke = if stroke.is_lost then codes "x" else if nat_lt stroke.from stroke.to then codes ">" else codes "<"

abbrev pub bar_sign : (place : ℕ) → Text
bar_sign place = if place % 8 == 7 then codes "|" else codes " "

-- what stands at a place of the lifelines alone, of which one may have a mark
abbrev pub bare_sign : Option Marked → (place : ℕ) → Text
bare_sign None place = bar_sign place
bare_sign (Some marked) place = if place == marked.place then sign_text marked.sign else bar_sign place

-- what stands at a place: the head of the line that crosses the lifelines, that line, or what stands there without it
abbrev pub sign_at : Option Stroke → Option Marked → (place : ℕ) → Text
sign_at None marked place = bare_sign marked place
sign_at (Some stroke) marked place = if place == stroke.to then head_sign stroke
    else if is_between stroke.from stroke.to place then line_sign stroke place
    else bare_sign marked place

-- what stands at so many places from one on
abbrev pub signs_from : Option Stroke → Option Marked → (place count : ℕ) → Text
signs_from stroke marked place zero = []
signs_from stroke marked place (suc count) = sign_at stroke marked place ⋅ signs_from stroke marked (place + 1) count

-- The words behind the lifelines: as many as there is room for in 80 columns, and for 32 at least.
abbrev pub room_of : Sheet → ℕ
room_of sheet = max (80 - (8 * length sheet.columns.now + 2)) 32

-- the first octets of a text, as far as whole characters have room in them
abbrev pub beginning : (octets : ℕ) → Text → Text
beginning octets text = take (floor_char_boundary text octets) text

abbrev pub clipped : (room : ℕ) → Text → Text
clipped room text = if nat_lt room (length text) then beginning (room - 2) text ⋅ codes ".." else text

-- a line of a diagram: its signs, and words behind them
abbrev pub rung_text : Sheet → Option Stroke → Option Marked → (words : Text) → Text
rung_text sheet stroke marked words =
    signs_from stroke marked 0 (8 * length sheet.columns.now) ⋅ codes "  " ⋅ clipped (room_of sheet) words ⋅ newline
