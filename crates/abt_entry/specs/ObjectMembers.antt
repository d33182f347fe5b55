-- Members of JSON objects, and objects on lines of their own (docs/FORMATS.md, "JSON").
use Rattle.std.specs.Prelude.{◌≡◌, ℕ, List, [], ◌∷◌, ◌++◌}
use Rattle.json.specs.Token.{Token, begin_object, end_object, key, string, number}
use Rattle.json.specs.Print.{print}
use Rattle.json.specs.Written.{Written}
use Rattle.abt_rate.specs.Code.{code_of}
use Rattle.abt_text.specs.Text.{Text, ◌⋅◌, newline, decimal, code_text}

abbrev pub text_member : (name text : Text) → List Token
text_member name text = key name ∷ string text ∷ []

abbrev pub number_member : Text → ℕ → List Token
number_member name n = key name ∷ number (decimal n) ∷ []

-- a rate, as its code
abbrev pub rate_member : Text → ℕ → List Token
rate_member name rate = text_member name (code_text (code_of rate))

-- an object on a line of its own
abbrev pub object_line : List Token → Text
object_line members = print (begin_object ∷ (members ++ end_object ∷ [])) ⋅ newline

-- What a writer holds of an object's beginning: these members, behind a text.
pub record Holds (text : Text) (members : List Token) (writer : Written) : Type 0 where
  pub before : writer.before ≡ text
  pub tokens : writer.tokens ≡ begin_object ∷ members

-- The writer has these members more.
pub record Adds (members : List Token) (old new : Written) : Type 0 where
  pub before : new.before ≡ old.before
  pub tokens : new.tokens ≡ old.tokens ++ members
