-- The legend is held when a text has grown.
use Rattle.std.proofs.Common.{List, ℕ}
use Rattle.std.specs.Prelude.{Result, Ok, Err, OnOk}
use Rattle.abt_draw.specs.Legend.{HasWords, HasKey, HasLegend, HasStuckKey}
use Rattle.abt_draw.specs.Within.{Grows}
use Rattle.abt_draw.specs.declared.mark.Mark.{Mark}
use Rattle.abt_draw.specs.declared.mark.Mark.TheVariants.{Start, Crash, Ask, Cell, Set, Refused, Idle}
use Rattle.abt_draw.proofs.Within.{holds_still}

pub words_still : (words old new : List ℕ) → Grows old new → HasWords words old → HasWords words new
words_still words old new grows has = record { place = has.place; label = holds_still old new _ grows has.label }

pub key_still : (mark : Mark) (old new : List ℕ) → Grows old new → HasKey mark old → HasKey mark new
key_still mark old new grows has = record {
  at = has.at;
  shape = holds_still old new _ grows has.shape;
  meaning = words_still _ old new grows has.meaning;
}

pub stuck_key_still : (old new : List ℕ) → Grows old new → HasStuckKey old → HasStuckKey new
stuck_key_still old new grows has = record {
  at = has.at;
  circle = holds_still old new _ grows has.circle;
  cross = holds_still old new _ grows has.cross;
  meaning = words_still _ old new grows has.meaning;
}

pub legend_still : (old new : List ℕ) → Grows old new → HasLegend old → HasLegend new
legend_still old new grows has = record {
  marks = λ mark. key_still mark old new grows (has.marks mark);
  stuck = stuck_key_still old new grows has.stuck;
  rates = words_still _ old new grows has.rates;
  times = words_still _ old new grows has.times;
}

-- what follows from two facts of a result
pub on_both : {T E : Type 0} (r : Result T E) (P Q R : Type 0) → OnOk r P → OnOk r Q → (P → Q → R) → OnOk r R
on_both (Ok value) P Q R p q both = both p q
on_both (Err error) P Q R p q both = tt

-- each mark is one of seven
pub each_mark : (text : List ℕ) → HasKey Start text → HasKey Crash text → HasKey Ask text → HasKey Cell text → HasKey Set text → HasKey Refused text
    → HasKey Idle text → (mark : Mark) → HasKey mark text
each_mark text start crash ask cell set refused idle Start = start
each_mark text start crash ask cell set refused idle Crash = crash
each_mark text start crash ask cell set refused idle Ask = ask
each_mark text start crash ask cell set refused idle Cell = cell
each_mark text start crash ask cell set refused idle Set = set
each_mark text start crash ask cell set refused idle Refused = refused
each_mark text start crash ask cell set refused idle Idle = idle
