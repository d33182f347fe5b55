-- What the state of a source that a C program keeps stands for.
use Rattle.std.specs.Prelude.{◌≡◌, ◌≢◌, ℕ, ◌<◌, ◌≤◌, ◌^◌, ◌==◌, Some, None, Option, Result, Ok, Err, if◌then◌else◌}
use Rattle.abt_rate.specs.Rate.{units_of, spacing_of}
use Rattle.abt_cell.specs.Channel.{Channel}
use Rattle.abt_cell.specs.Message.{Terms}
use Rattle.abt_keep.specs.Record.{IsSpacing}
use Rattle.abt_shaper.specs.Shaping.{Shaping, IsKept}
use Rattle.abt_shaper.specs.declared.fault.ShapeFault.{ShapeFault}
use Rattle.abt_shaper.specs.declared.fault.ShapeFault.TheVariants.{ClockBack, TimeRange, Zero, TooSoon}
use Rattle.abt_source.specs.Calls.{asking_source, next_request}
use Rattle.abt_source.specs.SourceView.{SourceView}
use Rattle.abt_source.specs.declared.any.AnySource.{AnySource}
use Rattle.abt_source.specs.declared.any.AnySource.TheVariants.{Down, Idle, Asking}
use Rattle.abt_source.specs.declared.any.Phase.{Phase}
use Rattle.abt_source.specs.declared.any.Phase.TheVariants as phase
use Rattle.abt_source.specs.declared.answer.Answered.{Answered}
use Rattle.abt_source.specs.declared.answer.Answered.TheVariants.{Raised, Refused, Ignored}
use Rattle.abt_c.specs.Outcome.{done, raised, refused, ignored, clock_back, time_range, zero_rate, too_soon}
use Rattle.abt_c.specs.declared.source_state.AbtSource.{AbtSource}

-- eight letters, "abt sour"
abbrev pub source_kind : ℕ
source_kind = 0x61627420736f7572

-- The phases: not started, waiting for nothing, and waiting for an answer.
abbrev pub down_phase : ℕ
down_phase = 0

abbrev pub idle_phase : ℕ
idle_phase = 1

abbrev pub asking_phase : ℕ
asking_phase = 2

-- the phase that a word says, and the asked rate beside it
abbrev pub phase_by : (word ask : ℕ) → Option Phase
phase_by word ask =
    if word == down_phase then Some phase.Down
    else (if word == idle_phase then Some phase.Idle
    else (if word == asking_phase then Some (phase.Asking ask) else None))

abbrev pub vc_in : AbtSource → Channel
vc_in s = record { vpi = s.vpi; vci = s.vci }

-- the newest request: its number is the last one, its floor the present rate
abbrev pub newest_in : AbtSource → Terms
newest_in s = record { vc = vc_in s; seq = s.last; floor = units_of s.rate; ask = units_of s.ask }

abbrev pub shaping_in : AbtSource → Shaping
shaping_in s = record { next = s.next; emitted = if s.has_emitted == 0 then None else Some s.emitted }

abbrev pub source_with_newest : AbtSource → Option Terms → SourceView
source_with_newest s newest = record {
  vc = vc_in s;
  rate = units_of s.rate;
  last = s.last;
  kept = record { number = s.kept_number; spacing = s.kept_spacing };
  gap = s.gap;
  next = (shaping_in s).next;
  emitted = (shaping_in s).emitted;
  newest = newest;
}

-- the source
abbrev pub source_in : AbtSource → SourceView
source_in s = source_with_newest s (if s.phase == asking_phase then Some (newest_in s) else None)

-- what each source keeps
pub record AreParts (s : AbtSource) : Type 0 where
  pub kind : s.kind ≡ source_kind
  pub vpi : s.vpi < 2 ^ 12
  pub kept : IsSpacing s.kept_spacing
  pub gap : IsSpacing s.gap
  pub shaping : IsKept (shaping_in s)

-- The state is one of a source.
abbrev pub IsSource : AbtSource → Type 0
IsSource s =
    AreParts s × (s.phase ≤ asking_phase)
    × (s.phase ≡ asking_phase → (0 < s.last) × (units_of s.rate ≤ units_of s.ask))

-- It is one of a source that was started, and no write is to be made first.
abbrev pub IsReady : AbtSource → Type 0
IsReady s = IsSource s × (s.phase ≢ down_phase) × (s.is_writing ≡ 0)

-- It is that source, in that phase.
abbrev pub IsIn : AbtSource → AnySource → Type 0
IsIn s (Down source) = (source ≡ source_in s) × (s.phase ≡ down_phase)
IsIn s (Idle source) = (source ≡ source_in s) × (s.phase ≡ idle_phase)
IsIn s (Asking source) = (source ≡ source_in s) × (s.phase ≡ asking_phase)

-- what C gets for an emission
abbrev pub emission_number : Result ℕ ShapeFault → ℕ
emission_number (Ok moment) = done
emission_number (Err ClockBack) = clock_back
emission_number (Err TimeRange) = time_range
emission_number (Err Zero) = zero_rate
emission_number (Err (TooSoon next)) = too_soon

-- the moment that C has after a fault: the earliest one if it was too soon, and else what it had
abbrev pub later_of : ShapeFault → (before : ℕ) → ℕ
later_of (TooSoon next) before = next
later_of ClockBack before = before
later_of TimeRange before = before
later_of Zero before = before

-- a source that emitted a cell, after which the next one may leave from a moment on
abbrev pub emitted_source : SourceView → (now moment : ℕ) → SourceView
emitted_source s now moment = record s { gap = spacing_of s.rate; next = moment; emitted = Some now }

-- It is one of a source that was started, and a write is to be made first.
abbrev pub IsWriting : AbtSource → Type 0
IsWriting s = IsSource s × (s.phase ≢ down_phase) × (s.is_writing ≢ 0)

-- A source asked for a rate, and its request goes out.
pub record IsAsked (before : AbtSource) (ask : ℕ) (after : AbtSource) : Type 0 where
  pub state : IsSource after
  pub phase : after.phase ≡ asking_phase
  pub writing : after.is_writing ≡ 0
  pub source : source_in after ≡ asking_source (source_in before) (next_request (source_in before) ask)

-- what C gets for an answer that a source heard, and the source then
abbrev pub answer_number : Answered → ℕ
answer_number (Raised s) = raised
answer_number (Refused s) = refused
answer_number (Ignored s) = ignored

abbrev pub heard_in : Answered → SourceView
heard_in (Raised s) = s
heard_in (Refused s) = s
heard_in (Ignored s) = s
