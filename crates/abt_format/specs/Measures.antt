-- Rates in cells per second, and moments in seconds, exactly: decimal fractions without zeros behind.
use Rattle.std.specs.Prelude.{ℕ, zero, suc, ◌*◌, ◌/◌, ◌%◌, ◌^◌, ◌==◌, [], codes, if◌then◌else◌}
use Rattle.abt_text.specs.Text.{Text, ◌⋅◌, decimal}

-- The digits behind the point of a rest below `parts`, each the whole part of ten times the rest before it: so many at most, and
-- none once no rest is left.
abbrev pub digits_of : (places parts rest : ℕ) → Text
digits_of zero parts rest = []
digits_of (suc places) parts rest =
    if rest == 0 then [] else (decimal (rest * 10 / parts) ⋅ digits_of places parts (rest * 10 % parts))

-- the point and the digits behind it, if there is a rest
abbrev pub rest_text : (places parts rest : ℕ) → Text
rest_text places parts rest = if rest == 0 then [] else (codes "." ⋅ digits_of places parts rest)

-- a number as a decimal fraction, given how many parts are one
abbrev pub fraction_text : (places parts number : ℕ) → Text
fraction_text places parts number =
    decimal (number / parts) ⋅ rest_text places parts (number % parts)

-- units of 1/512 cell per second, in cells per second: 1/512 has nine places
abbrev pub cells_text : ℕ → Text
cells_text units = fraction_text 9 512 units

-- picoseconds, in seconds
abbrev pub seconds_text : ℕ → Text
seconds_text moment = fraction_text 12 (10 ^ 12) moment
