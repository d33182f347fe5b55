-- Asks for rate 0 that a text writes by another code than 0000 (docs/EXPLAIN.md).
use Rattle.std.specs.Prelude.{◌≡◌, ℕ, ◌+◌, ◌==◌, Bool, true, false, if◌then◌else◌, List, [], ◌∷◌, drop, Option, None, Some, option_map, codes}
use Rattle.std.specs.Str.{bytes_eq}
use Rattle.toml_parser.specs.Strings.{quoted, starts_string}
use Rattle.abt_format.specs.EventText.{event_text}
use Rattle.abt_model.specs.declared.event.Event.{Event}
use Rattle.abt_model.specs.declared.event.Event.TheVariants.{Ask}
use Rattle.abt_text.specs.Text.{Text, ◌⋅◌, decimal}

-- whether an event asks for rate 0
abbrev pub is_zero_ask : Event → Bool
is_zero_ask (Ask c rate plan) = rate == 0
is_zero_ask other = false

-- the TOML string with which a text begins, if it begins with one
abbrev pub said_in : Text → Option Text
said_in text = if starts_string text then option_map (λ read. read.0) (quoted text) else None

-- the line of such an event: its number, and its text
abbrev pub line_of : (number : ℕ) → (said : Text) → Text
line_of number said = decimal number ⋅ codes " is written \"" ⋅ said ⋅ codes "\": that code is rate 0, as 0000 is\n"

abbrev pub line_if_said : (number : ℕ) → Event → (said : Text) → Text
line_if_said number event said = if bytes_eq said (event_text event) then [] else line_of number said

abbrev pub line_if_other : (number : ℕ) → Event → (said : Option Text) → Text
line_if_other number event None = []
line_if_other number event (Some said) = line_if_said number event said

abbrev pub line_at : (source : Text) → (number : ℕ) → Event → (at : ℕ) → Text
line_at source number event at = if is_zero_ask event then line_if_other number event (said_in (drop at source)) else []

-- the lines of events that stand at these places of a text, the first of which has this number
abbrev pub lines_from : (source : Text) → (number : ℕ) → (places : List ℕ) → List Event → Text
lines_from source number [] events = []
lines_from source number (at ∷ places) [] = []
lines_from source number (at ∷ places) (event ∷ events) = line_at source number event at ⋅ lines_from source (number + 1) places events

-- Behind a text there are these lines, for some places of the source. That these are the places of all the events isn't said.
pub record AddsWritten (source : Text) (events : List Event) (old new : Text) : Type 0 where
  pub places : List ℕ
  pub is : new ≡ old ⋅ lines_from source 1 places events
