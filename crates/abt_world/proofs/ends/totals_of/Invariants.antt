use Rattle.std.proofs.Common.{◌≡◌, map, take}
use Rattle.abt_node.specs.Table.{sum_of}
use Rattle.abt_world.proofs.ends.totals_of.Given as goal

abbrev pub invariant-loop-port : goal.invariant-loop-port
invariant-loop-port l = l.totals ≡ map sum_of (take l.port-index l.ports)
