-- Words between single spaces, and the numbers that words can be.
use Rattle.std.specs.Prelude.{ℕ, ◌<◌, ◌==◌, ◌≢◌, ◌&&◌, nat_le, nat_lt, Bool, if◌then◌else◌, List, [], ◌∷◌, length, slice_index, Option, Some, None}
use Rattle.std.specs.Char.{is_ascii_digit}
use Rattle.std.specs.List.{list_all}
use Rattle.std.specs.Str.Parse.{digits_value}
use Rattle.abt_text.specs.Text.{Text, ◌⋅◌}

-- the octet of a space
abbrev pub space : ℕ
space = 32

-- A text has no such octet.
abbrev pub Lacks : ℕ → Text → Type 0
Lacks octet text = (i : ℕ) → i < length text → slice_index text i ≢ octet

-- some words as one text, a single space between each two
abbrev pub spaced : List Text → Text
spaced [] = []
spaced (word ∷ []) = word
spaced (word ∷ (next ∷ words)) = word ⋅ (space ∷ []) ⋅ spaced (next ∷ words)

-- an octet at the front of the first word
abbrev pub with_octet : ℕ → List Text → List Text
with_octet octet [] = (octet ∷ []) ∷ []
with_octet octet (word ∷ words) = (octet ∷ word) ∷ words

-- the words of a text, which is cut at each space: an empty word where two spaces meet, or one stands at an end
abbrev pub words_of : Text → List Text
words_of [] = [] ∷ []
words_of (octet ∷ text) = if octet == space then [] ∷ words_of text else with_octet octet (words_of text)

-- 1 to 19 decimal digits, and nothing else
abbrev pub is_number : Text → Bool
is_number text = nat_le 1 (length text) && nat_le (length text) 19 && list_all is_ascii_digit text

abbrev pub number_of : Text → Option ℕ
number_of text = if is_number text then Some (digits_value 10 text) else None

abbrev pub below : ℕ → Option ℕ → Option ℕ
below limit (Some number) = if nat_lt number limit then Some number else None
below limit None = None

-- such a number, if it is below a limit
abbrev pub number_below : ℕ → Text → Option ℕ
number_below limit text = below limit (number_of text)
