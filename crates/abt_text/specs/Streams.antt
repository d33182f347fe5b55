-- What was taken from a reader, and what went out to a writer, if the octets that they have are known.
use Rattle.std.specs.Prelude.{ℕ, ◌<◌, ◌≤◌, Option, length, take}
use Rattle.std.specs.Io.KnownBytes.{Appends, Consumes}
use Rattle.abt_text.specs.Text.{Text}

-- how many octets a text has at most (docs/FORMATS.md, "Scenario")
abbrev pub text_max : ℕ
text_max = 16777216

-- A part of the text went out, from its beginning, and not all of it.
pub record AppendsPrefix (old new : Option Text) (text : Text) : Type 0 where
  pub count : ℕ
  pub short : count < length text
  pub front : Appends old new (take count text)

-- At most so many octets were taken.
pub record ConsumesAtMost (old new : Option Text) (limit : ℕ) : Type 0 where
  pub taken : Text
  pub within : length taken ≤ limit
  pub front : Consumes old new taken
