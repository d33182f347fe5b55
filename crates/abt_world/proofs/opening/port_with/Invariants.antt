-- The port has the connections from the place on.
use Rattle.std.proofs.Common.{◌≡◌, ◌≤◌, length, drop}
use Rattle.abt_world.specs.Opening.{opening_table}
use Rattle.abt_world.proofs.opening.port_with.Given as goal

abbrev pub invariant-loop-place : goal.invariant-loop-place
invariant-loop-place l = record {
  within : l.place ≤ length l.conns;
  made : l.port ≡ opening_table l.fn.id l.fn.capacity (drop l.place l.conns);
}

abbrev pub decreases-loop-place : goal.decreases-loop-place
decreases-loop-place l = l.place
