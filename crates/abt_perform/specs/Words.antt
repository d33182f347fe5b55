-- The name of a fault in parts, and a text in pieces.
use Rattle.std.specs.Prelude.{ℕ, List, [], ◌∷◌, codes}
use Rattle.std.specs.Borrow.{Bor}
use Rattle.abt_text.specs.Text.{Text, ◌⋅◌, decimal}
use Rattle.abt_scenario.specs.Keys.{key_name}
use Rattle.abt_perform.specs.declared.naming.FaultName.{FaultName}
use Rattle.abt_perform.specs.declared.naming.Fields.{Fields}
use Rattle.abt_perform.specs.declared.naming.Fields.TheVariants as fields

-- some words, and fields behind them, each behind a space
abbrev pub with_fields : Text → Fields → Text
with_fields words fields.None = words
with_fields words (fields.Key key) = words ⋅ codes " " ⋅ key_name key
with_fields words (fields.One number) = words ⋅ codes " " ⋅ decimal number
with_fields words (fields.Two first second) = words ⋅ codes " " ⋅ decimal first ⋅ codes " " ⋅ decimal second

abbrev pub text_of_name : FaultName → Text
text_of_name name = with_fields name.words.now name.fields

-- some pieces, one after the other
abbrev pub joined : List (Bor Text) → Text
joined [] = []
joined (piece ∷ pieces) = piece.now ⋅ joined pieces
