-- The moments of a clock, and what lines ask for then (docs/LIVE.md, "Moments").
use Rattle.std.specs.Prelude.{◌≡◌, ◌-◌, ◌*◌, ◌^◌, ℕ, nat_lt, Bool, false, if◌then◌else◌, codes, Option, None, Some, Result, Ok, Err}
use Rattle.std.specs.Str.{bytes_eq}
use Rattle.abt_text.specs.Text.{Text}
use Rattle.abt_live.specs.declared.fault.LiveFault.{LiveFault}
use Rattle.abt_live.specs.declared.fault.LiveFault.TheVariants as fault
use Rattle.abt_live.specs.declared.run_clock.RunClock.{RunClock}
use Rattle.abt_live.specs.declared.source_asked.SourceAsked.{SourceAsked}
use Rattle.abt_live.specs.declared.source_asked.SourceAsked.TheVariants.{Start, Emit, Wrong}

-- the moment at which a clock has counted so many nanoseconds: the picoseconds since it had counted those of the epoch, when the run began
abbrev pub moment_of : (epoch nanoseconds : ℕ) → ℕ
moment_of epoch nanoseconds = (nanoseconds - epoch) * 1000

-- the moment of a reading: it has none if it failed, comes before the run, or has a moment of more than 64 bits
abbrev pub moment_read : (epoch : ℕ) → (reading : Option ℕ) → Result ℕ LiveFault
moment_read epoch None = Err fault.Clock
moment_read epoch (Some nanoseconds) =
    if nat_lt nanoseconds epoch then Err fault.ClockBack
    else if nat_lt (moment_of epoch nanoseconds) (2 ^ 64) then Ok (moment_of epoch nanoseconds)
    else Err fault.TimeRange

-- A clock was read, and this is the moment of the reading.
pub record Reads {N : Type 0} (reads : N → Option ℕ → N → Type 0) (old : RunClock N) (moment : Result ℕ LiveFault) (new : RunClock N) : Type 0 where
  pub reading : Option ℕ
  pub read : reads old.clock reading new.clock
  pub moment_is : moment ≡ moment_read old.epoch reading
  pub epoch : new.epoch ≡ old.epoch

-- a line is this word
abbrev pub is_word : (word : Text) → (line : Option Text) → Bool
is_word word (Some line) = bytes_eq line word
is_word word None = false

-- `start` and `emit`, at the moment of a clock
abbrev pub started_now : Result ℕ LiveFault → SourceAsked
started_now (Ok now) = Start now
started_now (Err found) = Wrong found

abbrev pub emitted_now : Result ℕ LiveFault → SourceAsked
emitted_now (Ok now) = Emit now
emitted_now (Err found) = Wrong found

-- no moment is handed in
abbrev pub without_moment : SourceAsked → SourceAsked
without_moment (Start now) = Wrong fault.Words
without_moment (Emit now) = Wrong fault.Words
without_moment other = other

-- what a line asks for at this moment of a clock, where it asked for `asked` if moments were handed in
abbrev pub clocked : (moment : Result ℕ LiveFault) → (line : Option Text) → (asked : SourceAsked) → SourceAsked
clocked moment line asked =
    if is_word (codes "start") line then started_now moment
    else if is_word (codes "emit") line then emitted_now moment
    else without_moment asked
