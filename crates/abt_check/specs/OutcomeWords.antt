-- The texts that outcomes have (docs/FORMATS.md, "Report"), and what may be expected of an event.
use Rattle.std.specs.Prelude.{ℕ, ◌&&◌, ◌||◌, not, Bool, true, false, is_some, List, [], ◌∷◌, codes}
use Rattle.std.specs.Char.{is_ascii_digit}
use Rattle.std.specs.List.{list_all}
use Rattle.std.specs.Str.{bytes_eq}
use Rattle.abt_format.specs.Values.{rate_of}
use Rattle.abt_text.specs.Text.{Text}
use Rattle.abt_text.specs.Words.{words_of}

abbrev pub is_empty : Text → Bool
is_empty [] = true
is_empty (octet ∷ text) = false

-- decimal digits
abbrev pub is_digits : Text → Bool
is_digits word = not (is_empty word) && list_all is_ascii_digit word

-- a rate code
abbrev pub is_code : Text → Bool
is_code word = is_some (rate_of word)

-- an outcome of one word
abbrev pub is_alone : (word : Text) → Bool
is_alone word =
    bytes_eq word (codes "started") || bytes_eq word (codes "crashed") || bytes_eq word (codes "turned")
    || bytes_eq word (codes "set") || bytes_eq word (codes "passed") || bytes_eq word (codes "refuses")

-- why something is refused or dropped, or isn't enabled; what a policer finds, and what a source hears
abbrev pub is_refusal : (name : Text) → Bool
is_refusal name =
    bytes_eq name (codes "Keep") || bytes_eq name (codes "TimeRange") || bytes_eq name (codes "SeqExhausted")
    || bytes_eq name (codes "ClockBack") || bytes_eq name (codes "Zero") || bytes_eq name (codes "BelowSum")
    || bytes_eq name (codes "AboveLimit")

abbrev pub is_verdict : (name : Text) → Bool
is_verdict name =
    bytes_eq name (codes "Conforming") || bytes_eq name (codes "TooEarly") || bytes_eq name (codes "NoRate")

abbrev pub is_drop_cause : (name : Text) → Bool
is_drop_cause name =
    bytes_eq name (codes "UnknownVc") || bytes_eq name (codes "Stale") || bytes_eq name (codes "Conflict")
    || bytes_eq name (codes "FloorAbove")

abbrev pub is_hearing : (name : Text) → Bool
is_hearing name =
    bytes_eq name (codes "Raised") || bytes_eq name (codes "Refused") || bytes_eq name (codes "Ignored")

abbrev pub is_cause : (name : Text) → Bool
is_cause name =
    bytes_eq name (codes "Down") || bytes_eq name (codes "Running") || bytes_eq name (codes "NotSent")
    || bytes_eq name (codes "Fenced") || bytes_eq name (codes "Delay") || bytes_eq name (codes "ClockBack")
    || bytes_eq name (codes "Unknown") || bytes_eq name (codes "NotAsking")

-- an outcome of two words
abbrev pub is_named : (word name : Text) → Bool
is_named word name =
    (bytes_eq word (codes "refused") && is_refusal name)
    || (bytes_eq word (codes "arrived") && is_verdict name)
    || (bytes_eq word (codes "dropped") && is_drop_cause name)
    || (bytes_eq word (codes "told") && is_hearing name)
    || (bytes_eq word (codes "not-enabled") && is_cause name)

-- a cell that left and when the next one may, or an emission that comes too soon
abbrev pub is_timed : (word first next : Text) → Bool
is_timed word first next =
    (bytes_eq word (codes "emitted") && is_digits first && is_digits next)
    || (bytes_eq word (codes "refused") && bytes_eq first (codes "TooSoon") && is_digits next)

-- a request by its number, floor and asked rate
abbrev pub is_request : (word seq floor ask : Text) → Bool
is_request word seq floor ask =
    (bytes_eq word (codes "asked") || bytes_eq word (codes "again")) && is_digits seq && is_code floor && is_code ask

abbrev pub are_outcome : (words : List Text) → Bool
are_outcome (word ∷ []) = is_alone word
are_outcome (word ∷ name ∷ []) = is_named word name
are_outcome (word ∷ first ∷ next ∷ []) = is_timed word first next
are_outcome (word ∷ seq ∷ floor ∷ ask ∷ []) = is_request word seq floor ask
are_outcome words = false

-- The text is written as an outcome is: its words are separated by exactly one space.
abbrev pub is_outcome : Text → Bool
is_outcome text = are_outcome (words_of text)

-- An outcome may be expected of an event, or, by an empty text, any.
abbrev pub is_expectation : Text → Bool
is_expectation text = is_empty text || is_outcome text
