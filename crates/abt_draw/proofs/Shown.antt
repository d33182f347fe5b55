-- What a text shows it shows when it has grown.
use Rattle.std.proofs.Common.{inl, inr, ℕ, List}
use Rattle.std.specs.Prelude.{Option, None, Some, IfSome}
use Rattle.abt_chart.specs.declared.arrow.Arrival.{Arrival}
use Rattle.abt_chart.specs.declared.arrow.Departure.{Departure}
use Rattle.abt_chart.specs.declared.crossings.Crossing.{Crossing}
use Rattle.abt_chart.specs.declared.told.Told.{Told}
use Rattle.abt_draw.specs.Cells.{HasCells}
use Rattle.abt_draw.specs.Lifelines.{HasLifeline, HasLifelines}
use Rattle.abt_draw.specs.Rows.{DrawsArrival, DrawsStump, DrawsSent, DrawsDeparture, HasRow, HasRows}
use Rattle.abt_draw.specs.Stuck.{HasStuckRow, HasStuckRows}
use Rattle.abt_draw.specs.Within.{Grows}
use Rattle.abt_draw.specs.declared.actor.Actor.{Actor}
use Rattle.abt_draw.specs.declared.scene.StuckMark.{StuckMark}
use Rattle.abt_draw.specs.declared.sheet.Sheet.{Sheet}
use Rattle.abt_draw.proofs.Within.{holds_still}

pub arrival_still : (sheet : Sheet) (event : ℕ) (arrival : Arrival) (old new : List ℕ) → Grows old new
    → DrawsArrival sheet event arrival old → DrawsArrival sheet event arrival new
arrival_still sheet event arrival old new grows drawn = elim drawn [
  | inl unseen ↦ inl unseen
  | inr arrow ↦ inr (arrow.0, arrow.1, holds_still old new _ grows arrow.2)
]

pub stump_still : (sheet : Sheet) (event : ℕ) (departure : Departure) (old new : List ℕ) → Grows old new
    → DrawsStump sheet event departure old → DrawsStump sheet event departure new
stump_still sheet event departure old new grows drawn = elim drawn [
  | inl unseen ↦ inl unseen
  | inr lost ↦ inr (lost.0, lost.1, holds_still old new _ grows lost.2)
]

sent_still : (sheet : Sheet) (event : ℕ) (departure : Departure) (came : Option ℕ) (old new : List ℕ) → Grows old new
    → DrawsSent sheet event departure came old → DrawsSent sheet event departure came new
sent_still sheet event departure None old new grows drawn = stump_still sheet event departure old new grows drawn
sent_still sheet event departure (Some came) old new grows drawn = λ behind. arrival_still sheet came _ old new grows (drawn behind)

pub departure_still : (sheet : Sheet) (event : ℕ) (departure : Departure) (old new : List ℕ) → Grows old new
    → DrawsDeparture sheet event departure old → DrawsDeparture sheet event departure new
departure_still sheet event departure old new grows drawn = sent_still sheet event departure departure.came old new grows drawn

-- what an event may bring or send stays drawn as more is added
pub brought_still : (sheet : Sheet) (event : ℕ) (arrival : Option Arrival) (old new : List ℕ) → Grows old new
    → IfSome arrival (λ one. DrawsArrival sheet event one old) → IfSome arrival (λ one. DrawsArrival sheet event one new)
brought_still sheet event None old new grows drawn = drawn
brought_still sheet event (Some one) old new grows drawn = arrival_still sheet event one old new grows drawn

pub all_sent_still : (sheet : Sheet) (event : ℕ) (departure : Option Departure) (old new : List ℕ) → Grows old new
    → IfSome departure (λ one. DrawsDeparture sheet event one old) → IfSome departure (λ one. DrawsDeparture sheet event one new)
all_sent_still sheet event None old new grows drawn = drawn
all_sent_still sheet event (Some one) old new grows drawn = departure_still sheet event one old new grows drawn

pub row_still : (sheet : Sheet) (event : ℕ) (told : Told) (crossing : Crossing) (line old new : List ℕ) → Grows old new
    → HasRow sheet event told crossing line old → HasRow sheet event told crossing line new
row_still sheet event told crossing line old new grows row =
    record { class = row.class; content = row.content; group = holds_still old new _ grows row.group; drawn = row.drawn }

pub rows_still : (sheet : Sheet) (explanation old new : List ℕ) → Grows old new → HasRows sheet explanation old → HasRows sheet explanation new
rows_still sheet explanation old new grows rows = record {
  each = λ k told crossing is_told is_crossing kept. row_still sheet _ told crossing _ old new grows (rows.each k told crossing is_told is_crossing kept);
}

pub lifeline_still : (sheet : Sheet) (column : ℕ) (who : Actor) (old new : List ℕ) → Grows old new
    → HasLifeline sheet column who old → HasLifeline sheet column who new
lifeline_still sheet column who old new grows has = record {
  kind = holds_still old new _ grows has.kind;
  number = holds_still old new _ grows has.number;
  lower = has.lower;
  behind = has.behind;
  line = holds_still old new _ grows has.line;
}

pub lifelines_still : (sheet : Sheet) (old new : List ℕ) → Grows old new → HasLifelines sheet old → HasLifelines sheet new
lifelines_still sheet old new grows has =
    record { each = λ column who is. lifeline_still sheet column who old new grows (has.each column who is) }

pub stuck_row_still : (sheet : Sheet) (place : ℕ) (mark : StuckMark) (old new : List ℕ) → Grows old new
    → HasStuckRow sheet place mark old → HasStuckRow sheet place mark new
stuck_row_still sheet place mark old new grows row =
    record { content = row.content; group = holds_still old new _ grows row.group; drawn = row.drawn }

pub stuck_rows_still : (sheet : Sheet) (old new : List ℕ) → Grows old new → HasStuckRows sheet old → HasStuckRows sheet new
stuck_rows_still sheet old new grows rows =
    record { each = λ place mark is. stuck_row_still sheet place mark old new grows (rows.each place mark is) }

pub cells_still : (sheet : Sheet) (old new : List ℕ) → Grows old new → HasCells sheet old → HasCells sheet new
cells_still sheet old new grows has = record { upper = has.upper; held = holds_still old new _ grows has.held }
