-- What a world stands for.
use Rattle.std.specs.Prelude.{◌≡◌, ℕ, List, All, slice_get, option_map}
use Rattle.abt_net.specs.declared.conn.Conn.{Conn}
use Rattle.abt_net.specs.Topology.{Topology, conn_at}
use Rattle.abt_node.specs.Table.{Table}
use Rattle.abt_model.specs.declared.event.Event.{Event}
use Rattle.abt_model.specs.Events.{AsksRate}
use Rattle.abt_model.specs.Past.{Past, facts_of}
use Rattle.abt_model.specs.Run.{facts_after}
use Rattle.abt_model.specs.PortTable.{port_table}
use Rattle.abt_world.specs.ConnectionStates.{ConnectionView, connection_of}

-- a world: its net, the tables of its ports, its connections, and how many entries its last event looked up
pub record WorldView : Type 0 where
  pub net : Topology
  pub ports : List Table
  pub connections : List ConnectionView
  pub looks : ℕ

-- Each port has the table, and each connection the actor and the facts, that a past gives.
pub record IsOfPast (net : Topology) (past : Past) (world : WorldView) : Type 0 where
  pub net_is : world.net ≡ net
  pub ports : (p : ℕ) → slice_get world.ports p ≡ option_map (λ (_ : ℕ). port_table net past p) (slice_get net.capacities p)
  pub connections : (c : ℕ) → slice_get world.connections c ≡ option_map (λ (conn : Conn). connection_of conn.vc (facts_of c past)) (conn_at net c)

-- A world stands for a list of events over a net: it is that of the past that they leave.
pub record StandsFor (net : Topology) (events : List Event) (world : WorldView) : Type 0 where
  pub rates : All AsksRate events
  pub stands : IsOfPast net (facts_after net events) world
