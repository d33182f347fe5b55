-- What a world counts: its violations.
use Rattle.std.specs.Prelude.{◌≡◌, Bool, not, List}
use Rattle.std.specs.List.{zip}
use Rattle.abt_net.specs.declared.conn.Conn.{Conn}
use Rattle.abt_net.specs.Topology.{Topology}
use Rattle.abt_node.specs.Table.{Table}
use Rattle.abt_safety.specs.declared.violations.Violations.{Violations}
use Rattle.abt_safety.specs.Holding.{is_held_along}
use Rattle.abt_safety.specs.Tallies.{count_of, is_above}
use Rattle.abt_world.specs.ConnectionStates.{ConnectionView}

-- whether a source shapes above what a hop of its path holds for it
abbrev pub shapes_above : List Table → Conn × ConnectionView → Bool
shapes_above ports pair = not (is_held_along pair.1.actor.source.rate pair.0.vc ports pair.0.path)

-- whether a cell came that wasn't found conforming
abbrev pub is_broken : ConnectionView → Bool
is_broken connection = not connection.index.conform

-- Each count is that of all connections and ports.
pub record IsTallied (net : Topology) (ports : List Table) (connections : List ConnectionView) (violations : Violations) : Type 0 where
  pub above : violations.above ≡ count_of (shapes_above ports) (zip net.conns connections)
  pub over : violations.over ≡ count_of is_above ports
  pub broken : violations.broken ≡ count_of is_broken connections
