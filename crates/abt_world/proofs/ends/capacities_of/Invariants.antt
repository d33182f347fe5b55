use Rattle.std.proofs.Common.{◌≡◌, map, take}
use Rattle.abt_node.specs.Table.{Table}
use Rattle.abt_world.proofs.ends.capacities_of.Given as goal

abbrev pub invariant-loop-port : goal.invariant-loop-port
invariant-loop-port l = l.capacities ≡ map (λ (table : Table). table.capacity) (take l.port-index l.ports)
