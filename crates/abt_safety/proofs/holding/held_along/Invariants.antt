use Rattle.std.proofs.Common.{◌≡◌, map, take}
use Rattle.abt_safety.specs.Holding.{held_by_port}
use Rattle.abt_safety.proofs.holding.held_along.Given as goal

abbrev pub invariant-loop-port : goal.invariant-loop-port
invariant-loop-port l = l.held ≡ map (held_by_port l.vc l.ports) (take l.port-index l.path)
