-- What the lines of a dialogue ask for (docs/FORMATS.md, "Events line by line").
use Rattle.std.specs.Prelude.{ℕ, ◌==◌, if◌then◌else◌, Bool, false, [], ◌∷◌, codes, Option, Some, None}
use Rattle.std.specs.Str.{bytes_eq, is_utf8}
use Rattle.abt_text.specs.Text.{Text}
use Rattle.abt_format.specs.EventTexts.{event_of}
use Rattle.abt_model.specs.declared.event.Event.{Event}
use Rattle.abt_step.specs.declared.asked.Asked.{Asked}
use Rattle.abt_step.specs.declared.asked.Asked.TheVariants.{Nothing, Happen, Reset, Tell, Wrong}
use Rattle.abt_step.specs.declared.asked.AskedFault.{AskedFault}
use Rattle.abt_step.specs.declared.asked.AskedFault.TheVariants as fault
use Rattle.abt_step.specs.declared.asked.Query.TheVariants.{State, Report, Possible}

abbrev pub fault_name : AskedFault → Text
fault_name fault.TooLong = codes "TooLong"
fault_name fault.Event = codes "event"

-- the octets with which comments and queries begin
abbrev pub number_sign : ℕ
number_sign = 35

abbrev pub question_mark : ℕ
question_mark = 63

abbrev pub begins_with : ℕ → Text → Bool
begins_with first [] = false
begins_with first (octet ∷ line) = octet == first

abbrev pub event_or_fault : Option Event → Asked
event_or_fault (Some event) = Happen event
event_or_fault None = Wrong fault.Event

abbrev pub query_by : Text → Asked
query_by line =
    if bytes_eq line (codes "? state") then Tell State
    else if bytes_eq line (codes "? report") then Tell Report
    else if bytes_eq line (codes "? possible") then Tell Possible
    else Wrong fault.Event

abbrev pub asked_by : Text → Asked
asked_by line =
    if begins_with number_sign line then Nothing
    else if begins_with question_mark line then query_by line
    else if bytes_eq line (codes "reset") then Reset
    else event_or_fault (event_of line)

-- a line that is no text says no event
abbrev pub asked_in : Text → Asked
asked_in line = if is_utf8 line then asked_by line else Wrong fault.Event

-- of a line that is too long nothing is seen
abbrev pub asked_on : Option Text → Asked
asked_on (Some line) = asked_in line
asked_on None = Wrong fault.TooLong
