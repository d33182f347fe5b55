use Rattle.std.proofs.Common.{◌≡◌, [], map, take}
use Rattle.abt_net.specs.declared.conn.Conn.{Conn}
use Rattle.abt_world.specs.Seen.{seen}
use Rattle.abt_world.specs.ConnectionStates.{connection_of}
use Rattle.abt_world.proofs.fresh.fresh_connections.Given as goal

abbrev pub invariant-loop-conn : goal.invariant-loop-conn
invariant-loop-conn l = map seen l.connections.items ≡ map (λ (conn : Conn). connection_of conn.vc []) (take l.conn-index l.conns)
