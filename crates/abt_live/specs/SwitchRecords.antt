-- The records of a switch: what lines and cells ask for, and what is answered (docs/LIVE.md, "Cells as octets").
use Rattle.std.specs.Prelude.{◌≡◌, ◌==◌, ℕ, if◌then◌else◌, List, [], ◌∷◌, length, codes, Option, None, Some}
use Rattle.abt_cell.specs.Codec.{read_of}
use Rattle.abt_cell.specs.declared.message.Rm.TheVariants as rm
use Rattle.abt_perform.specs.CellText.{message_or_fault}
use Rattle.abt_records.specs.Records.{is_cell}
use Rattle.abt_records.specs.Runs.{Steps}
use Rattle.abt_journal.specs.declared.next_message.Next.{Next}
use Rattle.abt_journal.specs.declared.next_message.Next.TheVariants.{Send, Tell, Nothing}
use Rattle.abt_text.specs.Text.{Text}
use Rattle.abt_live.specs.declared.fault.LiveFault.TheVariants as fault
use Rattle.abt_live.specs.declared.switch.SwitchLines.{SwitchLines}
use Rattle.abt_live.specs.declared.switch_answer.SwitchAnswer.{SwitchAnswer}
use Rattle.abt_live.specs.declared.switch_answer.SwitchAnswer.TheVariants.{Faulty, Goes, Conforming, Rejected}
use Rattle.abt_live.specs.declared.switch_asked.SwitchAsked.{SwitchAsked}
use Rattle.abt_live.specs.declared.switch_asked.SwitchAsked.TheVariants.{Wrong}
use Rattle.abt_live.specs.Faults.{fault_line}
use Rattle.abt_live.specs.Marks.{cell_to, cell_to_source, port_of}
use Rattle.abt_live.specs.Said.{next_text}
use Rattle.abt_live.specs.Switch.{Does}
use Rattle.abt_live.specs.SwitchAsked.{asked_on, message_at}

-- the message of a cell comes to the port of the octet before it
abbrev pub cell_for : Option ℕ → (cell : Text) → SwitchAsked
cell_for (Some port) cell = message_at port (message_or_fault (read_of cell))
cell_for None cell = Wrong fault.Port

-- a cell that the end of the input cuts has fewer octets
abbrev pub cell_asked : Text → SwitchAsked
cell_asked [] = Wrong fault.Cut
cell_asked (mark ∷ cell) = if length cell == 52 then cell_for (port_of mark) cell else Wrong fault.Cut

-- what a record asks for: a cell, or a line
abbrev pub record_asked : Option Text → SwitchAsked
record_asked None = asked_on None
record_asked (Some octets) = if is_cell octets then cell_asked octets else asked_on (Some octets)

-- an answer as a line
abbrev pub answer_text : SwitchAnswer → Text
answer_text (Faulty fault) = fault_line fault
answer_text (Goes next) = next_text next
answer_text Conforming = codes "conforming\n"
answer_text Rejected = codes "rejected\n"

-- an answer as a record: a message that is sent is a cell
abbrev pub next_record : Next → Text
next_record (Send port message) = cell_to port message (next_text (Send port message))
next_record (Tell conn answer) = cell_to_source (rm.Answer answer)
next_record Nothing = next_text Nothing

abbrev pub answer_record : SwitchAnswer → Text
answer_record (Goes next) = next_record next
answer_record (Faulty fault) = answer_text (Faulty fault)
answer_record Conforming = answer_text Conforming
answer_record Rejected = answer_text Rejected

-- What was asked for is done as over lines, and the answer is said as a record.
pub record DoesRecord {J : Type 0} (contents : J → Option Text) (old : SwitchLines J) (asked : SwitchAsked) (said : Text) (new : SwitchLines J) : Type 0 where
  pub answer : SwitchAnswer
  pub does : Does contents old asked (answer_text answer) new
  pub says : said ≡ answer_record answer

-- the steps of a switch over records
abbrev pub SwitchesRecord : {J : Type 0} → (contents : J → Option Text) → Steps (SwitchLines J)
SwitchesRecord contents old seen said new = DoesRecord contents old (record_asked seen) said new
