-- What stands at the keys of a table (docs/FORMATS.md, "Scenario").
use Rattle.std.specs.Prelude.{ℕ, Bool, true, false, nat_lt, if◌then◌else◌, List, [], ◌∷◌, pos, Option, Some, None, Ok, Err}
use Rattle.toml.specs.Data.{Data, Items, Members, string, integer, array, no_items, item, get_member}
use Rattle.abt_text.specs.Text.{Text}
use Rattle.abt_scenario.specs.declared.key.Key.{Key}
use Rattle.abt_scenario.specs.declared.fault.ScenarioFault.TheVariants.{MissingKey, WrongType}
use Rattle.abt_scenario.specs.Keys.{key_name}
use Rattle.abt_text.specs.FirstFault.{◌>>=◌}
use Rattle.abt_scenario.specs.Reading.{Read}

abbrev pub needed : Key → Option Data → Read Data
needed key (Some value) = Ok value
needed key None = Err (MissingKey key)

-- what stands at a key that has to be there
abbrev pub member_at : Key → Members → Read Data
member_at key members = needed key (get_member (key_name key) members)

-- a whole number from 0 on, below a limit
abbrev pub whole_of : ℕ → Key → Data → Read ℕ
whole_of limit key (integer (pos number)) = if nat_lt number limit then Ok number else Err (WrongType key)
whole_of limit key _ = Err (WrongType key)

abbrev pub numbers_in : ℕ → Key → Items → Read (List ℕ)
numbers_in limit key no_items = Ok []
numbers_in limit key (item value values) = do
  number ← whole_of limit key value
  numbers ← numbers_in limit key values
  Ok (number ∷ numbers)

-- an array of such numbers
abbrev pub numbers_of : ℕ → Key → Data → Read (List ℕ)
numbers_of limit key (array values) = numbers_in limit key values
numbers_of limit key _ = Err (WrongType key)

abbrev pub text_of : Key → Data → Read Text
text_of key (string text) = Ok text
text_of key _ = Err (WrongType key)

abbrev pub texts_in : Key → Items → Read (List Text)
texts_in key no_items = Ok []
texts_in key (item value values) = do
  text ← text_of key value
  texts ← texts_in key values
  Ok (text ∷ texts)

-- whether all of some values are texts
abbrev pub are_texts : Items → Bool
are_texts no_items = true
are_texts (item (string text) values) = are_texts values
are_texts (item _ values) = false

-- the texts among some values
abbrev pub texts_among : Items → List Text
texts_among no_items = []
texts_among (item (string text) values) = text ∷ texts_among values
texts_among (item _ values) = texts_among values

-- an array of texts, which may be missing
abbrev pub texts_of : Key → Option Data → Read (List Text)
texts_of key None = Ok []
texts_of key (Some (array values)) = texts_in key values
texts_of key (Some _) = Err (WrongType key)

abbrev pub texts_at : Key → Members → Read (List Text)
texts_at key members = texts_of key (get_member (key_name key) members)
