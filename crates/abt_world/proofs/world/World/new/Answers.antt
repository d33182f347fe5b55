use Rattle.std.proofs.Common.{[], map, ap, ◌∙◌}
use Rattle.abt_net.specs.declared.conn.Conn.{Conn}
use Rattle.abt_world.specs.ConnectionStates.{connection_of}
use Rattle.abt_world.proofs.Beginning.{AreFresh, fresh_stands, fresh_number, fresh_tallied}
use Rattle.abt_world.proofs.Standings.{port_count}
use Rattle.abt_world.proofs.world.World.new.Goals as goal

pub invariant_of-result : goal.invariant_of-result
invariant_of-result c =
    let net = c.args.net.now in
    let ports = c.in_ok-ports.ports.items in
    let connections = c.in_ok-connections.connections.items in
    let fresh : AreFresh net ports connections = record {
      tables = c.in_ok-ports.ensures;
      fresh = c.in_ok-connections.ensures ∙ ap (map (λ (conn : Conn). connection_of conn.vc [])) c.conns.ensures.value;
    } in
    (fresh_number net ports connections fresh, c.conns.ensures.rules, fresh_tallied net ports connections c.none.result c.conns.ensures.rules fresh c.none.ensures.above c.none.ensures.over c.none.ensures.broken, port_count net [] ports c.in_ok-ports.ensures)

pub returns-clause-value : goal.returns-clause-value
returns-clause-value c =
    let net = c.args.net.now in
    let fresh : AreFresh net c.in_ok-ports.ports.items c.in_ok-connections.connections.items = record {
      tables = c.in_ok-ports.ensures;
      fresh = c.in_ok-connections.ensures ∙ ap (map (λ (conn : Conn). connection_of conn.vc [])) c.conns.ensures.value;
    } in
    fresh_stands net c.in_ok-ports.ports.items c.in_ok-connections.connections.items 0 fresh
