-- Rates, their codes, and the spacing of cells (docs/RULES.md, "Rates"). A rate is seen as its units, each 1/512 cell
-- per second.
use Rattle.std.specs.Prelude.{◌≡◌, ℕ, ◌+◌, ◌*◌, ◌/◌, ◌%◌, ◌^◌, ◌<◌, ◌≤◌, ◌⊎◌, ◌==◌, if◌then◌else◌}
use Rattle.std.specs.Int.{div_ceil}

-- The fields of a code of 16 bits, most significant first: reserved (1), nonzero (1), exponent (5), mantissa (9).
abbrev pub nonzero_of : ℕ → ℕ
nonzero_of code = code / 2 ^ 14 % 2

abbrev pub exponent_of : ℕ → ℕ
exponent_of code = code / 2 ^ 9 % 2 ^ 5

abbrev pub mantissa_of : ℕ → ℕ
mantissa_of code = code % 2 ^ 9

-- the rate of a code, in units
abbrev pub units_of : ℕ → ℕ
units_of code = if nonzero_of code == 0 then 0 else (512 + mantissa_of code) * 2 ^ exponent_of code

-- The one code of its rate that is written: the reserved bit is 0, and so are all the others of a zero.
pub record IsCanonical (code : ℕ) : Type 0 where
  pub reserved : code < 2 ^ 15
  pub zero_is_zero : nonzero_of code ≡ 0 → code ≡ 0

-- a rate that is not 0
pub record IsNonzeroRate (units : ℕ) : Type 0 where
  pub mantissa : ℕ
  pub exponent : ℕ
  pub mantissa_fits : mantissa < 512
  pub exponent_fits : exponent < 32
  pub units_are : units ≡ (512 + mantissa) * 2 ^ exponent

-- a number of units that some code says
abbrev pub IsRate : ℕ → Type 0
IsRate units = (units ≡ 0) ⊎ IsNonzeroRate units

-- the greatest rate, in units: mantissa 511 and exponent 31
abbrev pub greatest_units : ℕ
greatest_units = 1023 * 2 ^ 31

-- Cells that are at least t picoseconds apart keep the rate: 512 * 10^12 units are one cell in a picosecond.
abbrev pub KeepsRate : ℕ → ℕ → Type 0
KeepsRate units t = 512 * 10 ^ 12 ≤ t * units

-- The spacing of a rate that is not 0, rounded up to whole picoseconds: the least that keeps the rate.
abbrev pub spacing_of : ℕ → ℕ
spacing_of units = div_ceil (512 * 10 ^ 12) units
