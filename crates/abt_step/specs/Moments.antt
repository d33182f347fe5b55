-- The moments at which a cell may be at the first hop, within 64 bits.
use Rattle.std.specs.Prelude.{ℕ, ◌+◌, ◌-◌, ◌^◌, min}

-- a moment, or the greatest number of 64 bits, if it is above that
abbrev pub within_bits : ℕ → ℕ
within_bits moment = min moment (2 ^ 64 - 1)

-- the first moment for a cell that left at a moment, and takes this delay
abbrev pub window_start : (moment delay : ℕ) → ℕ
window_start moment delay = within_bits (moment + delay)

-- the last one, if it may take tau more
abbrev pub window_end : (moment delay tau : ℕ) → ℕ
window_end moment delay tau = within_bits (window_start moment delay + tau)
