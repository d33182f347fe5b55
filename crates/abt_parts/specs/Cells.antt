-- Cells that are handed over line by line, to be read or to be served at a port (docs/FORMATS.md, "Parts by hand").
use Rattle.std.specs.Prelude.{◌≡◌, ℕ, List, [], Option, Some, None, Result, Ok, Err, codes}
use Rattle.abt_cell.specs.declared.message.Rm.{Rm}
use Rattle.abt_node.specs.Table.{Table, sum_of}
use Rattle.abt_text.specs.Text.{Text, ◌⋅◌, newline, decimal}
use Rattle.abt_perform.specs.CellText.{message_of, message_text}
use Rattle.abt_perform.specs.PortText.{answer_text, fault_text, table_past}
use Rattle.abt_perform.specs.declared.fault.Fault.{Fault}
use Rattle.abt_perform.specs.declared.fault.Fault.TheVariants as fault
use Rattle.abt_lines.specs.Runs.{Ends, Steps}
use Rattle.abt_parts.specs.declared.cells.ReadLines.{ReadLines}
use Rattle.abt_parts.specs.declared.serve.ServedLines.{ServedLines}
use Rattle.abt_parts.specs.Lines.{IsAnswer, answers_of, numbered}

-- the request or answer of the cell that a line spells; of a line that is too long nothing is seen
abbrev pub message_on : Option Text → Result Rm Fault
message_on (Some line) = message_of line
message_on None = Err fault.TooLong

-- what the request or the answer of a cell says, or the fault of the cell
abbrev pub read_text : Result Rm Fault → Text
read_text (Ok rm) = message_text rm
read_text (Err found) = fault_text found

-- the steps of a reader of cells; nothing is said behind the last
abbrev pub ReadsLine : Steps ReadLines
ReadsLine old number line said new = said ≡ numbered number (read_text (message_on line))

abbrev pub EndsReading : Ends ReadLines
EndsReading last number said = said ≡ []

-- the answers to some lines that are read, the first of this number; nothing is kept, and nothing is said behind the last
abbrev pub read_lines : ℕ → List (Option Text) → Text
read_lines = answers_of (λ _ line. read_text (message_on line)) (λ kept _. kept) (λ _. []) (tt {0})

-- what is said behind the last cell that a port served
abbrev pub total_text : Table → Text
total_text table = codes "total " ⋅ decimal (sum_of table) ⋅ newline

-- the answer of a port to a line, and its table then
abbrev pub served_text : Table → Option Text → Text
served_text table line = answer_text table (message_on line)

abbrev pub served_past : Table → Option Text → Table
served_past table line = table_past table (message_on line)

-- the steps of a port over lines, and the total that it then holds
abbrev pub ServesLine : Steps ServedLines
ServesLine old number line said new = IsAnswer served_text served_past old.port number line said new.port

abbrev pub EndsServing : Ends ServedLines
EndsServing last number said = said ≡ total_text last.port

-- the answers of a port to some lines, the first of this number, and the total that it then holds
abbrev pub served_lines : Table → ℕ → List (Option Text) → Text
served_lines = answers_of served_text served_past total_text
