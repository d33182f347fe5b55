-- What a scenario's text expects of its events, by the array `expect` (docs/FORMATS.md, "Expected outcomes").
use Rattle.std.specs.Prelude.{ℕ, ◌+◌, ◌==◌, if◌then◌else◌, List, [], ◌∷◌, length, map, Option, Some, None, Result, Ok, Err, String, Vec, codes, string_bytes}
use Rattle.std.specs.declared.alloc.Global.{Global}
use Rattle.toml.specs.Data.{Data, Items, Members, string, array, no_items, item, get_member}
use Rattle.toml.specs.Parse.{parse_document}
use Rattle.abt_text.specs.FirstFault.{◌>>=◌}
use Rattle.abt_text.specs.Text.{Text}
use Rattle.abt_check.specs.OutcomeWords.{is_expectation}
use Rattle.abt_check.specs.declared.expectations.ExpectFault.{ExpectFault}
use Rattle.abt_check.specs.declared.expectations.ExpectFault.TheVariants.{NoArray, NoText, NoOutcome, Count}

-- what stands at `expect` in a document
abbrev pub expect_of : Option Members → Option Data
expect_of None = None
expect_of (Some members) = get_member (codes "expect") members

abbrev pub expect_in : (source : Text) → Option Data
expect_in source = expect_of (parse_document source)

-- what is expected of the event of this number, from 1
abbrev pub text_expected : ℕ → Text → Result Text ExpectFault
text_expected number text = if is_expectation text then Ok text else Err (NoOutcome number)

abbrev pub expectation_of : ℕ → Data → Result Text ExpectFault
expectation_of number (string text) = text_expected number text
expectation_of number _ = Err (NoText number)

-- what is expected of events, the first of this number
abbrev pub expectations_from : ℕ → Items → Result (List Text) ExpectFault
expectations_from number no_items = Ok []
expectations_from number (item value values) = do
  text ← expectation_of number value
  texts ← expectations_from (number + 1) values
  Ok (text ∷ texts)

-- there is one for each of so many events
abbrev pub counted : (events : ℕ) → List Text → Result (List Text) ExpectFault
counted events texts = if length texts == events then Ok texts else Err (Count events (length texts))

-- What an array expects of so many events, or its first fault.
abbrev pub expectations_of : (events : ℕ) → Data → Result (List Text) ExpectFault
expectations_of events (array values) = do
  texts ← expectations_from 1 values
  counted events texts
expectations_of events _ = Err NoArray

-- the same, not seen by where it lies in memory
abbrev pub texts_seen : Vec (String Global) Global → List Text
texts_seen texts = map string_bytes texts.items
