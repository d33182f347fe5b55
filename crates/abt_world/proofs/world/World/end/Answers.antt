use Rattle.std.proofs.Common.{◌≡◌, List, sym, subst, ap, ◌∙◌}
use Rattle.std.specs.Prelude.{map}
use Rattle.abt_net.specs.declared.conn.Conn.{Conn}
use Rattle.abt_net.specs.Topology.{Topology, IsWithinRules}
use Rattle.abt_node.specs.Table.{Table, sum_of}
use Rattle.abt_world.specs.declared.connection_state.ConnectionState.{ConnectionState}
use Rattle.abt_world.specs.Seen.{seen}
use Rattle.abt_safety.specs.Holding.{held_by_port}
use Rattle.abt_world.specs.Standing.{WorldView, StandsFor}
use Rattle.abt_world.proofs.Standings.{headline_before}
use Rattle.abt_world.proofs.Final.{AreOfPast, rates_read, held_read, totals_read, capacities_read}
use Rattle.abt_world.proofs.world.World.end.Goals as goal

pub returns-clause-trace : goal.returns-clause-trace
returns-clause-trace c net events stands said =
    let net_is = ap (λ (w : WorldView). w.net) c.self.view_is ∙ stands.stands.net_is in
    let rules : IsWithinRules net = subst IsWithinRules net_is c.conns.ensures.rules in
    let conns : c.conns.result.now ≡ net.conns = c.conns.ensures.value ∙ ap (λ (n : Topology). n.conns) net_is in
    let connections = c.self.inside.connections.items in
    let ports = c.self.inside.ports.items in
    let inside : StandsFor net events (record { net = c.self.inside.net.now; ports = ports; connections = map seen connections; looks = c.self.inside.looks }) = subst (StandsFor net events) (sym c.self.view_is) stands in
    let are : AreOfPast net events connections ports = record { rules = rules; looks = c.self.inside.looks; stands = subst (λ n. StandsFor net events (record { net = n; ports = ports; connections = map seen connections; looks = c.self.inside.looks })) net_is inside } in
    let read = λ (ks : List Conn) (ps : List Table). map (λ (conn : Conn). map (held_by_port conn.vc ps) conn.path) ks in
    record {
      outcomes = said;
      rates = c.in_ok-rates_of.ensures ∙ ap (map (λ (connection : ConnectionState). connection.actor.source.rate)) c.deref.ensures.value ∙ rates_read net events connections ports are;
      held = c.in_ok-held_of.ensures ∙ ap (read c.conns.result.now) c.deref-2.ensures.value ∙ ap (λ ks. read ks ports) conns ∙ held_read net events connections ports are;
      totals = c.in_ok-totals_of.ensures ∙ ap (map sum_of) c.deref-3.ensures.value ∙ totals_read net events connections ports are;
      capacities = c.in_ok-capacities_of.ensures ∙ ap (map (λ (table : Table). table.capacity)) c.deref-4.ensures.value ∙ capacities_read net events connections ports are;
      safe = c.safe.ensures.value net events stands;
    }

pub returns-clause-headline : goal.returns-clause-headline
returns-clause-headline c net events stands before after is =
    let net_is = ap (λ (w : WorldView). w.net) c.self.view_is ∙ stands.stands.net_is in
    headline_before net before after events (subst IsWithinRules net_is c.conns.ensures.rules) stands.rates is
