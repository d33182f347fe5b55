-- The ports of a net, each under its lock.
use Rattle.std.specs.Prelude.{◌≡◌, ℕ, List, length, Some, slice_get}
use Rattle.abt_net.specs.Topology.{Topology}
use Rattle.abt_links.specs.declared.port_cell.PortCellOf.{PortCellOf}

-- There is one cell for each port of the net, by the numbers of the ports.
pub record AreCellsOf {K Front Tally : Type 0} (net : Topology) (cells : List (PortCellOf K Front Tally)) : Type 0 where
  pub ports : length cells ≡ length net.capacities
  pub each : (p : ℕ) (cell : PortCellOf K Front Tally) → slice_get cells p ≡ Some cell → cell.port ≡ p
