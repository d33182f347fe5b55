-- Durations in words: so many picoseconds, or of another unit (docs/FORMATS.md, "Parts by hand").
use Rattle.std.specs.Prelude.{ℕ, ◌*◌, ◌^◌, if◌then◌else◌, Option, Some, None, codes}
use Rattle.std.specs.Str.{bytes_eq}
use Rattle.abt_format.specs.Values.{◌>>=◌}
use Rattle.abt_text.specs.Text.{Text}
use Rattle.abt_text.specs.Words.{number_of}
use Rattle.abt_codes.specs.Quantity.{digits_of, behind_digits}

-- how many picoseconds a unit has; digits alone are picoseconds
abbrev pub picoseconds_of : Text → Option ℕ
picoseconds_of word =
    if bytes_eq word (codes "") then Some 1
    else if bytes_eq word (codes "ps") then Some 1
    else if bytes_eq word (codes "ns") then Some (10 ^ 3)
    else if bytes_eq word (codes "us") then Some (10 ^ 6)
    else if bytes_eq word (codes "ms") then Some (10 ^ 9)
    else None

-- The picoseconds that a text says: 1 to 19 digits, and maybe a unit.
abbrev pub picoseconds_in : Text → Option ℕ
picoseconds_in text = do
  number ← number_of (digits_of text)
  scale ← picoseconds_of (behind_digits text)
  Some (number * scale)
