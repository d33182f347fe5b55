-- A port at work, and what its journal says of a step (docs/LIVE.md, "A switch").
use Rattle.std.specs.Prelude.{ℕ, ◌+◌, Bool, true, [], drop, is_some, codes, Option, Some, None}
use Rattle.json.specs.Print.{print}
use Rattle.json.specs.Tree.{json_tokens}
use Rattle.abt_text.specs.Text.{Text, ◌⋅◌, newline, decimal}
use Rattle.abt_net.specs.Topology.{Topology}
use Rattle.abt_node.specs.Table.{Table, connection_at}
use Rattle.abt_model.specs.PortTable.{port_table}
use Rattle.abt_journal.specs.declared.entry.Entry.{Entry}
use Rattle.abt_journal.specs.declared.input.PortInput.{PortInput}
use Rattle.abt_journal.specs.declared.input.PortInput.TheVariants.{Request, Answer, Arrive, Capacity}
use Rattle.abt_journal.specs.Replay.{reply_by, table_after}
use Rattle.abt_entry.specs.EntryWritten.{step_json}
use Rattle.abt_live.specs.declared.live_port.LivePort.{LivePort}

-- whether a port has the connection of an input, if that has one
abbrev pub knows : Table → PortInput → Bool
knows table (Request request) = is_some (connection_at table request.vc)
knows table (Answer answer) = is_some (connection_at table answer.terms.vc)
knows table (Arrive vc at) = is_some (connection_at table vc)
knows table (Capacity units) = true

-- port `id` of a net, which has done nothing yet
abbrev pub opening_of : Topology → (id : ℕ) → LivePort
opening_of net id = record { id = id; port = port_table net [] id; steps = 0 }

-- the entry of a step: its place is how many came before, and its reply is the one of the node table (docs/RULES.md, "Node")
abbrev pub entry_at : LivePort → PortInput → Entry
entry_at live input = record { place = live.steps; caller = 0; input = input; reply = reply_by live.port input }

abbrev pub past_step : LivePort → PortInput → LivePort
past_step live input = record live { port = table_after live.port input; steps = live.steps + 1 }

-- the line of a step of a port, as audits read it
abbrev pub step_text : (port : ℕ) → Entry → Text
step_text port entry = print (json_tokens (step_json port entry))

-- that of a data cell has one member more, before the others: the cell's number
abbrev pub switch_line : (port : ℕ) → Entry → (cell : Option ℕ) → Text
switch_line port entry None = step_text port entry ⋅ newline
switch_line port entry (Some cell) = codes "{\"cell\":" ⋅ decimal cell ⋅ codes "," ⋅ drop 1 (step_text port entry) ⋅ newline
