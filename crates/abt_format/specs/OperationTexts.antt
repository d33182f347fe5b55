-- What the text of an operation says (docs/FORMATS.md, "Operator"). What is said here is accepted, and nothing else.
use Rattle.std.specs.Prelude.{ℕ, ◌^◌, if◌then◌else◌, List, [], ◌∷◌, codes, Option, Some, None}
use Rattle.std.specs.Str.{bytes_eq}
use Rattle.abt_text.specs.Text.{Text}
use Rattle.abt_text.specs.Words.{words_of, number_of, number_below}
use Rattle.abt_format.specs.Values.{◌>>=◌}

-- P is a number of 16 bits, and U any number
abbrev pub capacity_at : Text → Text → Option (ℕ × ℕ)
capacity_at p u = do
  port ← number_below (2 ^ 16) p
  units ← number_of u
  Some (port, units)

-- `capacity P U`
abbrev pub operation_by : Text → Text → Text → Option (ℕ × ℕ)
operation_by word p u = if bytes_eq word (codes "capacity") then capacity_at p u else None

-- what some words say
abbrev pub said : List Text → Option (ℕ × ℕ)
said (word ∷ p ∷ u ∷ []) = operation_by word p u
said _ = None

-- the operation that a text says: its words are separated by exactly one space, with nothing before or after
abbrev pub operation_of : Text → Option (ℕ × ℕ)
operation_of text = said (words_of text)
