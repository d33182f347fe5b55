-- The clock of the machine (docs/LIVE.md, "Moments").
use Rattle.std.specs.Prelude.{◌≡◌, ℕ, Option, None}
use Rattle.abt_live.specs.declared.run_clock.RunClock.{RunClock}

-- a clock is what its last reading gave
abbrev pub KeepsReading : (old : Option ℕ) → (reading : Option ℕ) → (new : Option ℕ) → Type 0
KeepsReading old reading new = new ≡ reading

-- the clock from the epoch of a run on, which isn't read yet
abbrev pub machine_clock : (epoch : ℕ) → RunClock (Option ℕ)
machine_clock epoch = record { clock = None; epoch = epoch }
