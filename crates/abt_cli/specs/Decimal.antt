-- The numbers that words say in decimal digits, however many these are.
use Rattle.std.specs.Prelude.{ℕ, ◌&&◌, nat_le, Bool, if◌then◌else◌, length, Option, Some, None}
use Rattle.std.specs.Char.{is_ascii_digit}
use Rattle.std.specs.List.{list_all}
use Rattle.std.specs.Str.Parse.{digits_value}
use Rattle.abt_text.specs.Text.{Text}

-- at least one decimal digit, and nothing else
abbrev pub is_decimal : Text → Bool
is_decimal word = nat_le 1 (length word) && list_all is_ascii_digit word

-- the number that the word says, with any number of leading zeros
abbrev pub decimal_in : Text → Option ℕ
decimal_in word = if is_decimal word then Some (digits_value 10 word) else None
