-- What the lines of a switch ask for (docs/LIVE.md, "A switch").
use Rattle.std.specs.Prelude.{ℕ, ◌^◌, nat_lt, if◌then◌else◌, List, [], ◌∷◌, codes, Option, Some, None, Result, Ok, Err}
use Rattle.std.specs.Str.{bytes_eq, is_utf8}
use Rattle.abt_cell.specs.Channel.{Channel}
use Rattle.abt_cell.specs.declared.message.Rm.{Rm}
use Rattle.abt_cell.specs.declared.message.Rm.TheVariants as rm
use Rattle.abt_journal.specs.declared.input.PortInput.{PortInput}
use Rattle.abt_journal.specs.declared.input.PortInput.TheVariants as input
use Rattle.abt_format.specs.Values.{◌>>=◌}
use Rattle.abt_text.specs.Text.{Text}
use Rattle.abt_text.specs.Words.{number_below, number_of, words_of}
use Rattle.abt_perform.specs.CellText.{message_of}
use Rattle.abt_perform.specs.declared.fault.Fault.{Fault}
use Rattle.abt_live.specs.declared.fault.LiveFault.TheVariants as fault
use Rattle.abt_live.specs.declared.switch_asked.SwitchAsked.{SwitchAsked}
use Rattle.abt_live.specs.declared.switch_asked.SwitchAsked.TheVariants.{Step, Wrong}

-- a message, as it comes to a port
abbrev pub input_of : Rm → PortInput
input_of (rm.Request request) = input.Request request
input_of (rm.Answer answer) = input.Answer answer

-- the channel of two numbers, and that of two words
abbrev pub channel_in : (vpi vci : ℕ) → Option Channel
channel_in vpi vci = if nat_lt vpi (2 ^ 12) then Some (record { vpi = vpi; vci = vci }) else None

abbrev pub channel_of : (vpi vci : Text) → Option Channel
channel_of vpi vci = do
  first ← number_below (2 ^ 16) vpi
  second ← number_below (2 ^ 16) vci
  channel_in first second

abbrev pub or_wrong : Option SwitchAsked → SwitchAsked
or_wrong (Some asked) = asked
or_wrong None = Wrong fault.Words

-- `P HEX`
abbrev pub message_at : ℕ → Result Rm Fault → SwitchAsked
message_at port (Ok message) = Step port (input_of message) None
message_at port (Err found) = Wrong (fault.Cell found)

abbrev pub message_for : Option ℕ → (hex : Text) → SwitchAsked
message_for (Some port) hex = message_at port (message_of hex)
message_for None hex = Wrong fault.Words

abbrev pub message_asked : (port hex : Text) → SwitchAsked
message_asked port hex = message_for (number_below (2 ^ 16) port) hex

-- `P data CELL VPI VCI AT`
abbrev pub data_said : (port cell vpi vci at : Text) → Option SwitchAsked
data_said port cell vpi vci at = do
  id ← number_below (2 ^ 16) port
  number ← number_of cell
  vc ← channel_of vpi vci
  moment ← number_of at
  Some (Step id (input.Arrive vc moment) (Some number))

abbrev pub data_asked : (port : Text) → List Text → SwitchAsked
data_asked port (cell ∷ vpi ∷ vci ∷ at ∷ []) = or_wrong (data_said port cell vpi vci at)
data_asked port other = Wrong fault.Words

-- `P capacity UNITS`
abbrev pub capacity_said : (port units : Text) → Option SwitchAsked
capacity_said port units = do
  id ← number_below (2 ^ 16) port
  capacity ← number_of units
  Some (Step id (input.Capacity capacity) None)

abbrev pub capacity_asked : (port : Text) → List Text → SwitchAsked
capacity_asked port (units ∷ []) = or_wrong (capacity_said port units)
capacity_asked port other = Wrong fault.Words

abbrev pub message_alone : (port hex : Text) → List Text → SwitchAsked
message_alone port hex [] = message_asked port hex
message_alone port hex other = Wrong fault.Words

-- the words of a port, by the first of them
abbrev pub asked_by_word : (port word : Text) → List Text → SwitchAsked
asked_by_word port word more =
    if bytes_eq word (codes "data") then data_asked port more
    else if bytes_eq word (codes "capacity") then capacity_asked port more
    else message_alone port word more

abbrev pub asked_of : List Text → SwitchAsked
asked_of (port ∷ word ∷ more) = asked_by_word port word more
asked_of other = Wrong fault.Words

abbrev pub asked_by : Text → SwitchAsked
asked_by line = asked_of (words_of line)

abbrev pub asked_in : Text → SwitchAsked
asked_in line = if is_utf8 line then asked_by line else Wrong fault.NotUtf8

-- of a line that is too long nothing is seen
abbrev pub asked_on : Option Text → SwitchAsked
asked_on (Some line) = asked_in line
asked_on None = Wrong fault.TooLong
