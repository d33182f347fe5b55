-- What the lines of a source ask for (docs/LIVE.md, "A source").
use Rattle.std.specs.Prelude.{ℕ, if◌then◌else◌, List, [], ◌∷◌, codes, Option, Some, None, Result, Ok, Err}
use Rattle.std.specs.Str.{bytes_eq, is_utf8}
use Rattle.abt_cell.specs.declared.message.Rm.{Rm}
use Rattle.abt_cell.specs.declared.message.Rm.TheVariants as rm
use Rattle.abt_format.specs.Values.{rate_of}
use Rattle.abt_text.specs.Text.{Text}
use Rattle.abt_text.specs.Words.{number_of, words_of}
use Rattle.abt_perform.specs.CellText.{message_of}
use Rattle.abt_perform.specs.declared.fault.Fault.{Fault}
use Rattle.abt_live.specs.declared.fault.LiveFault.TheVariants as fault
use Rattle.abt_live.specs.declared.source_asked.SourceAsked.{SourceAsked}
use Rattle.abt_live.specs.declared.source_asked.SourceAsked.TheVariants.{Start, Ask, Again, Emit, Told, Wrong}

-- `HEX`
abbrev pub heard_in : Rm → SourceAsked
heard_in (rm.Answer answer) = Told answer
heard_in (rm.Request request) = Wrong fault.Request

abbrev pub answer_in : Result Rm Fault → SourceAsked
answer_in (Ok message) = heard_in message
answer_in (Err found) = Wrong (fault.Cell found)

abbrev pub answer_asked : (hex : Text) → SourceAsked
answer_asked hex = answer_in (message_of hex)

-- `start NOW`
abbrev pub start_at : Option ℕ → SourceAsked
start_at (Some now) = Start now
start_at None = Wrong fault.Words

abbrev pub started_at : Text → SourceAsked
started_at word = start_at (number_of word)

-- `emit NOW`
abbrev pub emit_at : Option ℕ → SourceAsked
emit_at (Some now) = Emit now
emit_at None = Wrong fault.Words

abbrev pub emitted_at : Text → SourceAsked
emitted_at word = emit_at (number_of word)

-- `ask CODE`
abbrev pub ask_at : Option ℕ → SourceAsked
ask_at (Some rate) = Ask rate
ask_at None = Wrong fault.Words

abbrev pub asked_rate : Text → SourceAsked
asked_rate word = ask_at (rate_of word)

abbrev pub again_or_answer : Text → SourceAsked
again_or_answer word = if bytes_eq word (codes "again") then Again else answer_asked word

abbrev pub deed_asked : (word more : Text) → SourceAsked
deed_asked word more =
    if bytes_eq word (codes "start") then started_at more
    else if bytes_eq word (codes "ask") then asked_rate more
    else if bytes_eq word (codes "emit") then emitted_at more
    else Wrong fault.Words

abbrev pub asked_of : List Text → SourceAsked
asked_of (word ∷ []) = again_or_answer word
asked_of (word ∷ more ∷ []) = deed_asked word more
asked_of other = Wrong fault.Words

abbrev pub asked_by : Text → SourceAsked
asked_by line = asked_of (words_of line)

abbrev pub asked_in : Text → SourceAsked
asked_in line = if is_utf8 line then asked_by line else Wrong fault.NotUtf8

-- of a line that is too long nothing is seen
abbrev pub asked_on : Option Text → SourceAsked
asked_on (Some line) = asked_in line
asked_on None = Wrong fault.TooLong
