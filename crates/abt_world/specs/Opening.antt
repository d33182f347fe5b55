-- A port before the first event, built one connection at a time.
use Rattle.std.specs.Prelude.{ℕ, List, [], ◌∷◌, Option, None, Some}
use Rattle.abt_cell.specs.Channel.{Channel}
use Rattle.abt_net.specs.declared.conn.Conn.{Conn}
use Rattle.abt_node.specs.Table.{Table, new_table, with_connection, opening}
use Rattle.abt_net.specs.Paths.{policer_at}

-- the table with a channel's connection, if there is a policer or none for it
abbrev pub joined_with : Table → Channel → Option (Option ℕ) → Table
joined_with table vc None = table
joined_with table vc (Some tau) = with_connection table vc (opening tau)

-- the table with a connection, if its path goes through the port; the first hop polices
abbrev pub joined : Table → Conn → Table
joined table conn = joined_with table conn.vc (policer_at conn table.id)

-- the table with all of these connections
abbrev pub opening_table : (id capacity : ℕ) → List Conn → Table
opening_table id capacity [] = new_table id capacity
opening_table id capacity (conn ∷ conns) = joined (opening_table id capacity conns) conn
