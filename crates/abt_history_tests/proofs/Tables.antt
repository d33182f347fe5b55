-- A port of a net before the first event has done nothing.
use Rattle.std.proofs.Common.{ℕ, List, [], ◌∷◌, slice_index, Option, None, Some, refl, subst}
use Rattle.abt_cell.specs.Channel.{Channel}
use Rattle.abt_net.specs.declared.conn.Conn.{Conn}
use Rattle.abt_net.specs.Topology.{Topology}
use Rattle.abt_node.specs.Table.{Table, new_table}
use Rattle.abt_net.specs.Paths.{policer_at}
use Rattle.abt_model.specs.PortTable.{port_table}
use Rattle.abt_world.specs.Opening.{joined_with, opening_table}
use Rattle.abt_world.proofs.Openings.{opening_table-is}
use Rattle.abt_journal.specs.Opening.{IsOpening}
use Rattle.abt_journal.proofs.Openings.{IsOpening-new, IsOpening-add}

IsOpening-joined : (table : Table) (vc : Channel) (policer : Option (Option ℕ)) → IsOpening table → IsOpening (joined_with table vc policer)
IsOpening-joined table vc None rest = rest
IsOpening-joined table vc (Some tau) rest = IsOpening-add table _ vc _ refl rest

-- the port has done nothing yet
IsOpening-table : (id capacity : ℕ) (conns : List Conn) → IsOpening (opening_table id capacity conns)
IsOpening-table id capacity [] = IsOpening-new (new_table id capacity) id capacity refl
IsOpening-table id capacity (conn ∷ conns) =
    IsOpening-joined (opening_table id capacity conns) conn.vc (policer_at conn (opening_table id capacity conns).id) (IsOpening-table id capacity conns)

pub IsOpening-port : (net : Topology) (p : ℕ) → IsOpening (port_table net [] p)
IsOpening-port net p = subst IsOpening (opening_table-is net p) (IsOpening-table p (slice_index net.capacities p) net.conns)
