use Rattle.std.proofs.Common.{◌≡◌, ◌<◌, ℕ, List, refl, sym, subst, ap, ◌∙◌, length, arith}
use Rattle.std.specs.Prelude.{Some, None, Option, option_map, option_and_then, slice_get, slice_index_or, if◌then◌else◌}
use Rattle.std.proofs.lemmas.Option.{slice_get-get_or}
use Rattle.abt_net.specs.declared.conn.Conn.{Conn}
use Rattle.abt_net.specs.Topology.{Topology, IsWithinRules, conn_at}
use Rattle.abt_node.specs.Table.{connection_at}
use Rattle.abt_facts.specs.Hop.{newest_of}
use Rattle.abt_model.specs.Answers.{is_hop}
use Rattle.abt_model.specs.Past.{facts_of}
use Rattle.abt_model.specs.Run.{facts_after}
use Rattle.abt_world.specs.Readings.{newest_in}
use Rattle.abt_world.specs.Standing.{WorldView, StandsFor}
use Rattle.abt_world.specs.Steps.{IsConnAt}
use Rattle.abt_world.proofs.Serving.{port_tells}
use Rattle.abt_world.proofs.Arriving.{newest_there}
use Rattle.abt_world.proofs.Standings.{some_same}
use Rattle.abt_world.proofs.world.World.newest.Goals as goal

pub returns : goal.returns
returns c net events stands =
    let past = facts_after net events in
    let net_is = ap (λ (w : WorldView). w.net) c.self.view_is ∙ stands.stands.net_is in
    let rules : IsWithinRules net = subst IsWithinRules net_is c.conns-conns.ensures.rules in
    let conns : c.conns-conns.result.now ≡ net.conns = c.conns-conns.ensures.value ∙ ap (λ (n : Topology). n.conns) net_is in
    let place = c.from-place.result in
    let low = c.if-place-conns.false in
    let conn = c.index-conns-place.result in
    let there : slice_get c.conns-conns.result.now place ≡ Some conn = slice_get-get_or c.conns-conns.result.now place conn low ∙ ap Some (sym c.index-conns-place.is) in
    let again : slice_index_or c.conns-conns.result.now place c.index-conns-place-2.result ≡ conn =
    some_same _ _ (sym (slice_get-get_or c.conns-conns.result.now place c.index-conns-place-2.result low) ∙ there) in
    let known : conn_at net place ≡ Some conn = sym (ap (λ (l : List Conn). slice_get l place) conns) ∙ there in
    let ports = c.self.inside.ports.items in
    let port = c.from-port.result in
    let are = (subst (StandsFor net events) (sym c.self.view_is) stands).stands.ports in
    let at : IsConnAt net past place conn (facts_of place past) = record { rules = rules; events = events; rates = stands.rates; led = refl; known = known; facts_are = refl } in
    let has = sym c.in_ok-port_at.ensures ∙ ap Some (sym c.from-port.ensures) in
    let count = c.len.ensures in
    let within = c.if-port-len.false in
    let in_ports : port < length ports = omega arith in
    let holds = newest_there net past place conn (facts_of place past) c.args.hop port ports c.index.result.now at are has in_ports (slice_get-get_or ports port c.index.result.now in_ports ∙ ap Some (sym c.index.ensures)) in
    let hop = (port_tells conn.path c.args.hop port has).0 in
    let same : c.newest.result ≡ Some (newest_of (facts_of place past) c.args.hop) = c.newest.ensures ∙ ap (λ (k : Conn). option_map (λ r. r.reservation.newest) (connection_at c.index.result.now k.vc)) again ∙ holds in
    subst (λ (n : ℕ). c.newest.result ≡ newest_in net past n c.args.hop) c.from-place.ensures
    (same ∙ sym (ap (λ (o : Option Conn). option_and_then (λ (k : Conn). if is_hop (length k.path) c.args.hop then Some (newest_of (facts_of place past) c.args.hop) else None) o) known
    ∙ ap (λ b. if b then Some (newest_of (facts_of place past) c.args.hop) else None) hop))
