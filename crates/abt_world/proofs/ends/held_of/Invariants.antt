use Rattle.std.proofs.Common.{◌≡◌, map, take}
use Rattle.abt_net.specs.declared.conn.Conn.{Conn}
use Rattle.abt_safety.specs.Holding.{held_by_port}
use Rattle.abt_world.proofs.ends.held_of.Given as goal

abbrev pub invariant-loop-conn : goal.invariant-loop-conn
invariant-loop-conn l = l.held ≡ map (λ (conn : Conn). map (held_by_port conn.vc l.ports) conn.path) (take l.conn-index l.conns)
