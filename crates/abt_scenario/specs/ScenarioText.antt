-- A net and events as the text of a scenario (docs/FORMATS.md, "Scenario").
use Rattle.std.specs.Prelude.{ℕ, zero, suc, ◌+◌, List, [], ◌∷◌, codes}
use Rattle.abt_net.specs.declared.conn.Conn.{Conn}
use Rattle.abt_net.specs.Topology.{Topology}
use Rattle.abt_model.specs.declared.event.Event.{Event}
use Rattle.abt_text.specs.Text.{Text, ◌⋅◌, decimal}
use Rattle.abt_format.specs.EventText.{event_text}

-- what stands before the number of an index in an array
abbrev pub gap_before : ℕ → Text
gap_before zero = []
gap_before (suc index) = codes ", "

abbrev pub item_text : (index number : ℕ) → Text
item_text index number = gap_before index ⋅ decimal number

-- the numbers of an array, from this index on
abbrev pub numbers_from : ℕ → List ℕ → Text
numbers_from index [] = []
numbers_from index (number ∷ numbers) = item_text index number ⋅ numbers_from (index + 1) numbers

-- an event as an item of the array of events
abbrev pub event_line : Event → Text
event_line event = codes "  \"" ⋅ event_text event ⋅ codes "\",\n"

abbrev pub event_lines : List Event → Text
event_lines [] = []
event_lines (event ∷ events) = event_line event ⋅ event_lines events

-- the table of a connection: what stands before the ports of its path, these, and what stands behind them
abbrev pub table_head : Conn → Text
table_head conn = codes "\n[[connection]]\nvpi = " ⋅ decimal conn.vc.vpi ⋅ codes "\nvci = " ⋅ decimal conn.vc.vci ⋅ codes "\npath = ["

abbrev pub table_tail : Conn → Text
table_tail conn = codes "]\ndelay = " ⋅ decimal conn.delay ⋅ codes "\ntau = " ⋅ decimal conn.tau ⋅ codes "\n"

abbrev pub connection_table : Conn → Text
connection_table conn = table_head conn ⋅ numbers_from 0 conn.path ⋅ table_tail conn

abbrev pub connection_tables : List Conn → Text
connection_tables [] = []
connection_tables (conn ∷ conns) = connection_table conn ⋅ connection_tables conns

-- the text of this net and these events; `events` stands before the first table, where TOML has it belong to no connection
abbrev pub scenario_text : Topology → List Event → Text
scenario_text net events =
    codes "ports = [" ⋅ numbers_from 0 net.capacities ⋅ codes "]\nevents = [\n" ⋅ event_lines events ⋅ codes "]\n"
    ⋅ connection_tables net.conns
