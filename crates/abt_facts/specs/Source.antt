-- The source of a connection, by the connection's facts, the newest first (docs/RULES.md, "Source").
use Rattle.std.specs.Prelude.{ℕ, ◌+◌, ◌==◌, Bool, true, false, List, [], ◌∷◌, if◌then◌else◌, max, Option, None, Some}
use Rattle.std.specs.List.{list_any}
use Rattle.abt_rate.specs.Limits.{spacing_max}
use Rattle.abt_rate.specs.Rate.{spacing_of}
use Rattle.abt_keep.specs.Record.{KeptRecord, old_record}
use Rattle.abt_facts.specs.declared.fact.Fact.{Fact}
use Rattle.abt_facts.specs.declared.fact.Fact.TheVariants.{Started, Crashed, Stored, Asked, Heard, Emitted}
use Rattle.abt_facts.specs.Requests.{floor_of, ask_of}
use Rattle.abt_facts.specs.Keeping.{need_by, writes_by, written_by}

-- whether a source is down, or waits for no answer, or waits for the answer to a number
pub data SourceState : Type 0 where
  Down : SourceState
  Idle : SourceState
  Asking : (seq : ℕ) → SourceState

-- What the facts say of a source: its state; the rate at which it shapes; the record in its store, which outlives a crash; the
-- record that it knows to be kept; the last number that it used; its clock, the greatest moment of a start or an emission, which
-- outlives a crash too; the gap that is running, which is the hold-off or the spacing of the last cell; the first moment at which
-- its next cell may leave; and the moment of its last emission since the last start.
pub record Source : Type 0 where
  pub state : SourceState
  pub rate : ℕ
  pub stored : KeptRecord
  pub kept : KeptRecord
  pub last : ℕ
  pub clock : ℕ
  pub gap : ℕ
  pub next : ℕ
  pub emission : Option ℕ

-- before the first fact: a store that nothing was written to counts as one of before spacings were kept
abbrev pub first_source : Source
first_source = record {
  state = Down;
  rate = 0;
  stored = old_record 0;
  kept = old_record 0;
  last = 0;
  clock = 0;
  gap = spacing_max;
  next = 0;
  emission = None;
}

-- the rate that an open request asks for, zero if none waits for its answer
abbrev pub open_ask : List Fact → SourceState → ℕ
open_ask facts Down = 0
open_ask facts Idle = 0
open_ask facts (Asking seq) = ask_of facts seq

-- the need of an ask of a source with these facts behind it, and whether the ask writes
abbrev pub need_in : List Fact → Source → (ask : ℕ) → ℕ
need_in facts s ask = need_by s.gap s.rate (open_ask facts s.state) ask

abbrev pub writes_in : List Fact → Source → (ask : ℕ) → Bool
writes_in facts s ask = writes_by s.kept s.last (need_in facts s ask)

-- The source after one more fact, which follows these: no rate after a start or a crash, the floor of what it asked for, and more
-- on a yes alone. The last number is that of the last ask, or of the store at the last start. A source knows the record that it
-- started from, and then the one that an ask wrote whose request went out.
abbrev pub after : List Fact → Fact → Source → Source
after facts (Started now kept) s = record {
  state = Idle;
  rate = 0;
  stored = s.stored;
  kept = kept;
  last = kept.number;
  clock = max now s.clock;
  gap = kept.spacing;
  next = now + kept.spacing;
  emission = None;
}
after facts Crashed s = record s { state = Down; rate = 0 }
after facts (Stored kept) s = record s { stored = kept }
after facts (Asked seq floor ask mark) s = record s {
  state = Asking seq;
  rate = floor;
  kept = if writes_in facts s ask then s.stored else s.kept;
  last = seq;
}
after facts (Heard seq granted) s = record s { state = Idle; rate = if granted then ask_of facts seq else floor_of facts seq }
after facts (Emitted cell at rate) s =
    record s { clock = max at s.clock; gap = spacing_of rate; next = at + spacing_of rate; emission = Some at }
after facts fact s = s

abbrev pub source_of : List Fact → Source
source_of [] = first_source
source_of (fact ∷ facts) = after facts fact (source_of facts)

abbrev pub state_of : List Fact → SourceState
state_of facts = (source_of facts).state

abbrev pub rate_of : List Fact → ℕ
rate_of facts = (source_of facts).rate

abbrev pub stored_of : List Fact → KeptRecord
stored_of facts = (source_of facts).stored

abbrev pub kept_of : List Fact → KeptRecord
kept_of facts = (source_of facts).kept

abbrev pub last_of : List Fact → ℕ
last_of facts = (source_of facts).last

abbrev pub clock_of : List Fact → ℕ
clock_of facts = (source_of facts).clock

abbrev pub gap_of : List Fact → ℕ
gap_of facts = (source_of facts).gap

abbrev pub next_of : List Fact → ℕ
next_of facts = (source_of facts).next

abbrev pub emission_of : List Fact → Option ℕ
emission_of facts = (source_of facts).emission

-- the need of an ask after these facts, whether it writes, and what it writes then
abbrev pub need_of : List Fact → (ask : ℕ) → ℕ
need_of facts ask = need_in facts (source_of facts) ask

abbrev pub writes : List Fact → (ask : ℕ) → Bool
writes facts ask = writes_in facts (source_of facts) ask

abbrev pub written_for : List Fact → (ask : ℕ) → KeptRecord
written_for facts ask = written_by (last_of facts) (need_of facts ask)

abbrev pub is_yes_to : ℕ → Fact → Bool
is_yes_to s (Heard seq true) = seq == s
is_yes_to s other = false

-- whether the source heard a yes to this number while it waited for it
abbrev pub yes_was_heard : List Fact → ℕ → Bool
yes_was_heard facts s = list_any (is_yes_to s) facts
