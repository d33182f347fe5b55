-- Runs as text: ladder diagrams, a line for each event (docs/PICTURES.md, "As text").
use Rattle.std.specs.Prelude.{◌≡◌, ℕ, zero, suc, ◌+◌, ◌-◌, ◌||◌, nat_lt, false, if◌then◌else◌, List, [], ◌∷◌, length, Option, None, Some, codes}
use Rattle.std.specs.Option.{is_none, option_map, option_and_then, unwrap_or}
use Rattle.abt_text.specs.Text.{Text, ◌⋅◌, decimal, newline}
use Rattle.abt_chart.specs.declared.arrow.Arrival.{Arrival}
use Rattle.abt_chart.specs.declared.arrow.Departure.{Departure}
use Rattle.abt_chart.specs.declared.crossings.Crossing.{Crossing}
use Rattle.abt_chart.specs.declared.message.Message.{Message}
use Rattle.abt_chart.specs.declared.told.Told.{Told}
use Rattle.abt_draw.specs.Levels.{has_row}
use Rattle.abt_draw.specs.Lifelines.{kind_name, number_of}
use Rattle.abt_draw.specs.Lines.{first_line, behind_line, behind_lines}
use Rattle.abt_draw.specs.Marks.{mark_of, actor_of}
use Rattle.abt_draw.specs.Placed.{sender_of, receiver_of}
use Rattle.abt_draw.specs.Places.{level_of}
use Rattle.abt_draw.specs.Rungs.{bar_at, rung_text}
use Rattle.abt_draw.specs.Visible.{shown_in}
use Rattle.abt_draw.specs.declared.actor.Actor.{Actor}
use Rattle.abt_draw.specs.declared.rung.Marked.{Marked}
use Rattle.abt_draw.specs.declared.rung.Sign.{Sign}
use Rattle.abt_draw.specs.declared.rung.Sign.TheVariants.{Of, Stuck}
use Rattle.abt_draw.specs.declared.rung.Stroke.{Stroke}
use Rattle.abt_draw.specs.declared.scene.StuckMark.{StuckMark}
use Rattle.abt_draw.specs.declared.sheet.Sheet.{Sheet}

-- the lifelines from which a message is sent, and to which it goes
abbrev pub sender_bar : Sheet → Message → Option ℕ
sender_bar sheet message = bar_at sheet.columns.now (sender_of sheet.net.now message)

abbrev pub receiver_bar : Sheet → Message → Option ℕ
receiver_bar sheet message = bar_at sheet.columns.now (receiver_of sheet.net.now message)

-- The line of what an event brings goes from the lifeline of its sender to that of its receiver; its head stands just before that.
abbrev pub before_bar : (from bar : ℕ) → ℕ
before_bar from bar = if nat_lt from bar then bar - 1 else bar + 1

abbrev pub stroke_to : Arrival → (from bar : ℕ) → Stroke
stroke_to arrival from bar = record {
  from = from;
  to = before_bar from bar;
  kind = arrival.message.kind;
  is_broken = arrival.again || arrival.late;
  is_lost = false;
}

abbrev pub stroke_of : Sheet → Arrival → Option Stroke
stroke_of sheet arrival =
    option_and_then (λ from. option_map (stroke_to arrival from) (receiver_bar sheet arrival.message)) (sender_bar sheet arrival.message)

-- What an event sends that comes in no row of the diagram has half a column's line in a line of its own.
abbrev pub half_to : (from bar : ℕ) → ℕ
half_to from bar = if nat_lt from bar then from + 4 else from - 4

abbrev pub stump_to : Departure → (from bar : ℕ) → Stroke
stump_to departure from bar = record {
  from = from;
  to = half_to from bar;
  kind = departure.message.kind;
  is_broken = false;
  is_lost = is_none departure.came;
}

abbrev pub stump_of : Sheet → Departure → Option Stroke
stump_of sheet departure =
    option_and_then (λ from. option_map (stump_to departure from) (receiver_bar sheet departure.message)) (sender_bar sheet departure.message)

-- what is told of a message that comes in no row: it never comes, or behind the last one
abbrev pub stump_words : Sheet → (came : Option ℕ) → Option Text
stump_words sheet None = Some (codes "never came")
stump_words sheet (Some came) = if nat_lt sheet.rows.count (level_of sheet.rows came) then Some (codes "comes behind these events") else None

abbrev pub stump_line : Sheet → Option Stroke → (words : Option Text) → Text
stump_line sheet (Some stroke) (Some words) = rung_text sheet (Some stroke) None words
stump_line sheet stroke words = []

abbrev pub stump_text : Sheet → Option Departure → Text
stump_text sheet None = []
stump_text sheet (Some departure) = stump_line sheet (stump_of sheet departure) (stump_words sheet departure.came)

-- The mark of an event stands on its lifeline; of one on no lifeline that is shown, at the left edge.
abbrev pub marked_at : Sheet → (who : Option Actor) → Sign → Marked
marked_at sheet who sign = record { place = unwrap_or (bar_at sheet.columns.now who) 0; sign = sign }

abbrev pub marked_of : Sheet → Told → Option Marked
marked_of sheet told = option_map (λ mark. marked_at sheet (actor_of sheet.net.now told.event) (Of mark)) (mark_of told.outcome)

-- the lines of an event, whose line in the explanation of its run this is
abbrev pub event_text : Sheet → Told → Crossing → (line : Text) → Text
event_text sheet told crossing line =
    rung_text sheet (option_and_then (stroke_of sheet) crossing.arrival) (marked_of sheet told) line ⋅ stump_text sheet crossing.departure

abbrev pub event_if_shown : Sheet → Told → Crossing → (line : Text) → Text
event_if_shown sheet told crossing line =
    if has_row sheet.only.now sheet.net.now sheet.columns.now told.event then event_text sheet told crossing line else []

-- the lines of some events, each with what it brings and sends; the explanation of these events and those behind them has a line for each
abbrev pub events_text : Sheet → List Told → List Crossing → (explanation : Text) → Text
events_text sheet [] crossings explanation = []
events_text sheet (told ∷ tolds) [] explanation = []
events_text sheet (told ∷ tolds) (crossing ∷ crossings) explanation =
    event_if_shown sheet told crossing (first_line explanation) ⋅ events_text sheet tolds crossings (behind_line explanation)

-- the lines of the events that are shown
abbrev pub shown_text : Sheet → (explanation : Text) → Text
shown_text sheet explanation =
    events_text sheet (shown_in sheet) sheet.chart.now.crossings (behind_lines explanation sheet.rows.first)

-- so many blanks
abbrev pub blanks : ℕ → Text
blanks zero = []
blanks (suc count) = codes " " ⋅ blanks count

-- a text that ends at a lifeline
abbrev pub ending_text : Text → Text
ending_text text = blanks (8 - length text) ⋅ text

-- what the lifelines are, and their numbers
abbrev pub kinds_text : List Actor → Text
kinds_text [] = []
kinds_text (who ∷ columns) = ending_text (kind_name who) ⋅ kinds_text columns

abbrev pub numbers_text : List Actor → Text
numbers_text [] = []
numbers_text (who ∷ columns) = ending_text (decimal (number_of who)) ⋅ numbers_text columns

abbrev pub names_text : List Actor → Text
names_text columns = kinds_text columns ⋅ newline ⋅ numbers_text columns ⋅ newline

-- the lines of entries at which journals are stuck
abbrev pub stuck_text : Sheet → List StuckMark → Text
stuck_text sheet [] = []
stuck_text sheet (mark ∷ marks) =
    rung_text sheet None (Some (marked_at sheet (Some mark.actor) Stuck)) (codes "stuck: " ⋅ first_line mark.text.now) ⋅ stuck_text sheet marks

abbrev pub keys_text : Text
keys_text = codes "\n---> request  ===> yes  ~~~> no  - -> again, or late  ---x never came\n"
    ⋅ codes "o start  X crash  * ask  + cell leaves, comes  # capacity  ? not enabled\n"
    ⋅ codes "! refused or dropped  @ a journal is stuck\n"
    ⋅ codes "times in picoseconds; rates behind refuses and capacity in 1/512 cell/s\n"

-- A diagram has a title, the names of the lifelines, the lines of the events that are shown, those of stuck entries, and what its signs mean.
pub record IsLadder (sheet : Sheet) (words text : Text) : Type 0 where
  pub title : Text
  pub is : text ≡ title ⋅ codes "\n\n" ⋅ names_text sheet.columns.now ⋅ shown_text sheet words ⋅ stuck_text sheet sheet.stuck.now ⋅ keys_text
