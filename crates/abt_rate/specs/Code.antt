-- How the canonical code of a rate is found. What it is found for stands in `Rate`: the one canonical code of those units.
use Rattle.std.specs.Prelude.{ℕ, ◌+◌, ◌-◌, ◌*◌, ◌/◌, ◌^◌, ◌<◌, ◌≤◌, ◌==◌, if◌then◌else◌}
use Rattle.std.specs.Int.{w64, leading_zeros}

-- A number lies from the least rate of an exponent on, and below the least rate of the next.
pub record HasExponent (units exponent : ℕ) : Type 0 where
  pub fits : exponent < 32
  pub low : 512 * 2 ^ exponent ≤ units
  pub high : units < 1024 * 2 ^ exponent

-- the exponent of a rate: that of the power of two at it or below, less 9
abbrev pub found_exponent : ℕ → ℕ
found_exponent units = 54 - leading_zeros w64 units

-- the canonical code of a rate
abbrev pub code_of : ℕ → ℕ
code_of units = if units == 0 then 0 else 2 ^ 14 + found_exponent units * 2 ^ 9 + (units / 2 ^ found_exponent units - 512)
