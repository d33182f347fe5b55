-- A world in which nothing is wrong, as it stands, whatever happened to it.
use Rattle.std.specs.Prelude.{◌≡◌, ℕ, ◌≤◌, true, Some, slice_get}
use Rattle.abt_net.specs.declared.conn.Conn.{Conn}
use Rattle.abt_node.specs.Table.{Table, sum_of}
use Rattle.abt_net.specs.Topology.{conn_at}
use Rattle.abt_safety.specs.Holding.{held_by_port}
use Rattle.abt_world.specs.ConnectionStates.{ConnectionView}
use Rattle.abt_world.specs.Standing.{WorldView}

-- The rate of no source is above what a port of its path holds for it, no port's sum is above its capacity, and each cell
-- that arrived was found conforming.
pub record IsSound (world : WorldView) : Type 0 where
  pub rates : (c i p : ℕ) (conn : Conn) (connection : ConnectionView) → conn_at world.net c ≡ Some conn → slice_get world.connections c ≡ Some connection →
      slice_get conn.path i ≡ Some p → connection.actor.source.rate ≤ held_by_port conn.vc world.ports p
  pub sums : (p : ℕ) (table : Table) → slice_get world.ports p ≡ Some table → sum_of table ≤ table.capacity
  pub cells : (c : ℕ) (connection : ConnectionView) → slice_get world.connections c ≡ Some connection → connection.index.conform ≡ true
