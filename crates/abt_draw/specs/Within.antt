-- Texts within texts: what a picture shows, wherever it stands in it.
use Rattle.std.specs.Prelude.{◌≡◌}
use Rattle.abt_text.specs.Text.{Text, ◌⋅◌}

-- A part stands somewhere in a text.
pub record Holds (text part : Text) : Type 0 where
  pub before : Text
  pub behind : Text
  pub is : text ≡ before ⋅ part ⋅ behind

-- A text got more behind it, and lost nothing.
pub record Grows (old new : Text) : Type 0 where
  pub more : Text
  pub is : new ≡ old ⋅ more
