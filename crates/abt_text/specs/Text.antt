-- The words that texts are made of. A text is the list of its octets.
use Rattle.std.specs.Prelude.{ℕ, ◌/◌, ◌%◌, ◌^◌, List, [], ◌∷◌, ◌++◌, false}
use Rattle.std.specs.Fmt as Fmt

abbrev pub Text : Type 0
Text = List ℕ

-- a text, and then another: `a ⋅ b ⋅ c` is a, then b, then c
infixr 10 ◌⋅◌
abbrev pub ◌⋅◌ : Text → Text → Text
a ⋅ b = a ++ b

-- the octet that ends each line, and a text of it alone
abbrev pub line_feed : ℕ
line_feed = 10

abbrev pub newline : Text
newline = line_feed ∷ []

-- a number in decimal digits, without leading zeros
abbrev pub decimal : ℕ → Text
decimal n = Fmt.decimal n

-- the hexadecimal digit of a number below 16: `0` to `9`, then `a` to `f`
abbrev pub hex_digit : ℕ → ℕ
hex_digit d = Fmt.digit_glyph false d

-- a code of 16 bits as four hexadecimal digits, the most significant first
abbrev pub code_text : ℕ → Text
code_text code = hex_digit (code / 16 ^ 3) ∷ hex_digit (code / 16 ^ 2 % 16) ∷ hex_digit (code / 16 % 16) ∷ hex_digit (code % 16) ∷ []
