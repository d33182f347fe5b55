-- Rates in words: so many cells, or bits, per second, as a decimal fraction (docs/FORMATS.md, "Rates in words").
use Rattle.std.specs.Prelude.{ℕ, ◌+◌, ◌-◌, ◌*◌, ◌/◌, ◌^◌, ◌==◌, nat_le, if◌then◌else◌, List, [], ◌∷◌, length, take, drop, Option, Some, None, codes}
use Rattle.std.specs.Char.{is_ascii_digit}
use Rattle.std.specs.List.{prefix_len}
use Rattle.std.specs.Str.{bytes_eq}
use Rattle.abt_format.specs.Values.{◌>>=◌}
use Rattle.abt_text.specs.Text.{Text}
use Rattle.abt_text.specs.Words.{number_of}
use Rattle.abt_codes.specs.declared.quantity.Quantity.{Quantity}
use Rattle.abt_codes.specs.declared.quantity.RateUnit.{RateUnit}
use Rattle.abt_codes.specs.declared.quantity.RateUnit.TheVariants.{Cells, Bits, Kilobits, Megabits, Gigabits}

-- how many decimal places a rate has at most
abbrev pub places_max : ℕ
places_max = 9

-- the bits of a cell on the line: 53 octets
abbrev pub cell_bits : ℕ
cell_bits = 53 * 8

abbrev pub unit_of : Text → Option RateUnit
unit_of word =
    if bytes_eq word (codes "cps") then Some Cells
    else if bytes_eq word (codes "bps") then Some Bits
    else if bytes_eq word (codes "kbps") then Some Kilobits
    else if bytes_eq word (codes "Mbps") then Some Megabits
    else if bytes_eq word (codes "Gbps") then Some Gigabits
    else None

-- The number with its last digits behind the point, so many of a unit, in units of 1/512 cell per second; of 10^9 bits the last digits are
-- whole bits.
abbrev pub quantity_of : (number places : ℕ) → RateUnit → Quantity
quantity_of number places Cells = record { over = number * 512; under = 10 ^ places }
quantity_of number places Bits = record { over = number * 512; under = 10 ^ places * cell_bits }
quantity_of number places Kilobits = record { over = number * 10 ^ 3 * 512; under = 10 ^ places * cell_bits }
quantity_of number places Megabits = record { over = number * 10 ^ 6 * 512; under = 10 ^ places * cell_bits }
quantity_of number places Gigabits = record { over = number * 10 ^ (places_max - places) * 512; under = cell_bits }

-- the digits that a text begins with, and what stands behind them
abbrev pub digits_of : Text → Text
digits_of text = take (prefix_len is_ascii_digit text) text

abbrev pub behind_digits : Text → Text
behind_digits text = drop (prefix_len is_ascii_digit text) text

-- the octet of a decimal point
abbrev pub point : ℕ
point = 46

-- what stands behind the point that a text begins with, if it does
abbrev pub behind_point : Text → Option Text
behind_point [] = None
behind_point (octet ∷ text) = if octet == point then Some text else None

abbrev pub with_unit : (number places : ℕ) → Text → Option Quantity
with_unit number places word = do
  rate_unit ← unit_of word
  Some (quantity_of number places rate_unit)

-- a whole number, the digits of its fraction, and a unit
abbrev pub with_places : (whole fraction places : ℕ) → Text → Option Quantity
with_places whole fraction places word =
    if nat_le places places_max then with_unit (whole * 10 ^ places + fraction) places word else None

abbrev pub with_fraction : (whole : ℕ) → Text → Option Quantity
with_fraction whole text = do
  fraction ← number_of (digits_of text)
  with_places whole fraction (length (digits_of text)) (behind_digits text)

abbrev pub with_rest : (whole : ℕ) → (rest : Text) → Option Text → Option Quantity
with_rest whole rest (Some text) = with_fraction whole text
with_rest whole rest None = with_unit whole 0 rest

-- The rate that a text says: 1 to 19 digits, maybe a point and 1 to 9 digits, and a unit.
abbrev pub quantity_in : Text → Option Quantity
quantity_in text = do
  whole ← number_of (digits_of text)
  with_rest whole (behind_digits text) (behind_point (behind_digits text))

-- the whole units of 1/512 cell per second in the rate that a text says
abbrev pub units_in : Text → Option ℕ
units_in text = do
  quantity ← quantity_in text
  Some (quantity.over / quantity.under)
