-- The text that `abt port` prints (docs/FORMATS.md, "The program"): a line for each cell, counted from 1, and the total.
use Rattle.std.specs.Prelude.{ℕ, ◌+◌, List, [], ◌∷◌, Option, Some, None, Result, Ok, Err, codes, nat_le, if◌then◌else◌}
use Rattle.std.specs.FinMap as map
use Rattle.abt_rate.specs.Limits.{port_connections_max}
use Rattle.abt_cell.specs.Channel.{Channel}
use Rattle.abt_cell.specs.Codec.{request_of}
use Rattle.abt_cell.specs.declared.message.Rm.{Rm}
use Rattle.abt_cell.specs.declared.message.Rm.TheVariants.{Request, Answer}
use Rattle.abt_node.specs.Names.{drop_name}
use Rattle.abt_node.specs.Table.{Table, new_table, opening, with_connection, sum_of, reply_to, table_after, answer_to, table_after_answer}
use Rattle.abt_node.specs.declared.reply.Onward.{Onward}
use Rattle.abt_node.specs.declared.reply.Onward.TheVariants as onward
use Rattle.abt_node.specs.declared.reply.Back.{Back}
use Rattle.abt_node.specs.declared.reply.Back.TheVariants as back
use Rattle.abt_node.specs.declared.reply.DropCause.{DropCause}
use Rattle.abt_text.specs.Text.{Text, ◌⋅◌, newline, decimal}
use Rattle.abt_perform.specs.Names.{fault_name}
use Rattle.abt_perform.specs.CellText.{message_of, message_hex}
use Rattle.abt_perform.specs.declared.fault.Fault.{Fault}
use Rattle.abt_perform.specs.declared.fault.Fault.TheVariants.{Full}

-- a port's table that knows a connection: a new one is added, unless it has as many as it may
abbrev pub table_knowing : Table → Channel → Option Table
table_knowing table vc =
    if map.contains_key table.connections vc then Some table
    else if nat_le port_connections_max (map.len table.connections) then None
    else Some (with_connection table vc (opening None))

abbrev pub drop_text : DropCause → Text
drop_text cause = codes "drop " ⋅ drop_name cause

abbrev pub onward_text : Rm → Onward → Text
onward_text rm onward.Pass = codes "pass " ⋅ message_hex rm
onward_text rm (onward.Refuse answer) = codes "refuse " ⋅ message_hex (Answer answer)
onward_text rm (onward.Drop cause) = drop_text cause

abbrev pub back_text : Rm → Back → Text
back_text rm back.Pass = codes "pass " ⋅ message_hex rm
back_text rm (back.Drop cause) = drop_text cause

-- the decision of a port on a message of a connection that it knows
abbrev pub decision_text : Table → Rm → Text
decision_text table (Request terms) = onward_text (Request terms) (reply_to table terms)
decision_text table (Answer reply) = back_text (Answer reply) (answer_to table reply)

abbrev pub table_decided : Table → Rm → Table
table_decided table (Request terms) = table_after table terms
table_decided table (Answer reply) = table_after_answer table reply

abbrev pub fault_text : Fault → Text
fault_text fault = codes "fault " ⋅ fault_name fault

abbrev pub served_text : Option Table → Rm → Text
served_text (Some table) rm = decision_text table rm
served_text None rm = fault_text Full

abbrev pub table_served : Table → Option Table → Rm → Table
table_served old (Some table) rm = table_decided table rm
table_served old None rm = old

-- the answer of a port to a cell, and its table then; octets that are no RM cell change nothing
abbrev pub answer_text : Table → Result Rm Fault → Text
answer_text table (Ok rm) = served_text (table_knowing table (request_of rm).vc) rm
answer_text table (Err fault) = fault_text fault

abbrev pub table_past : Table → Result Rm Fault → Table
table_past table (Ok rm) = table_served table (table_knowing table (request_of rm).vc) rm
table_past table (Err fault) = table

abbrev pub line_of : Table → ℕ → Text → Text
line_of table number cell = decimal number ⋅ codes " " ⋅ answer_text table (message_of cell) ⋅ newline

-- the lines of some cells, the first of this number, and the total that is then reserved
abbrev pub lines_from : Table → ℕ → List Text → Text
lines_from table number [] = codes "total " ⋅ decimal (sum_of table) ⋅ newline
lines_from table number (cell ∷ cells) = line_of table number cell ⋅ lines_from (table_past table (message_of cell)) (number + 1) cells

-- the port is number 0, and no ingress
abbrev pub port_text : ℕ → List Text → Text
port_text capacity cells = lines_from (new_table 0 capacity) 1 cells
