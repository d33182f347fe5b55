-- The values of hexadecimal digits.
use Rattle.std.specs.Prelude.{◌≡◌, ℕ, ◌<◌, List, length, slice_index, unwrap_or}
use Rattle.hex.specs.Hex.{hex_digit_value}

-- the value of a digit of either case, or 16 if it is none
abbrev pub value_or_16 : ℕ → ℕ
value_or_16 digit = unwrap_or (hex_digit_value digit) 16

-- The digits of a cell have these values.
pub record HaveValues (digits values : List ℕ) : Type 0 where
  pub long : length digits ≡ 104
  pub are : (k : ℕ) → k < 104 → slice_index values k ≡ value_or_16 (slice_index digits k)
