use Rattle.std.proofs.Common.{◌≡◌, ◌<◌, ◌≤◌, inl, inr, refl, sym, subst, ap, ◌∙◌, length, map, arith}
use Rattle.std.specs.Prelude.{Some, option_map, slice_get}
use Rattle.std.proofs.lemmas.Option.{slice_get-get_or, slice_get-map}
use Rattle.abt_net.specs.declared.conn.Conn.{Conn}
use Rattle.abt_net.specs.Topology.{Topology, IsWithinRules, conn_at}
use Rattle.abt_actor.specs.Actor.{ActorView}
use Rattle.abt_facts.specs.Cells.{after_last_of, emitted_of}
use Rattle.abt_index.specs.Index.{Index}
use Rattle.abt_model.specs.Past.{facts_of}
use Rattle.abt_model.specs.Run.{facts_after}
use Rattle.abt_model.proofs.Arrivals.{timely}
use Rattle.abt_model.proofs.Lawful.{route_of}
use Rattle.abt_model.proofs.Served.{conn_within}
use Rattle.abt_model.proofs.Worlds.{cases_option}
use Rattle.abt_world.specs.ConnectionStates.{ConnectionView, connection_of}
use Rattle.abt_world.specs.Readings.{progress_of, progress_in}
use Rattle.abt_world.specs.Seen.{seen}
use Rattle.abt_world.specs.Standing.{WorldView, StandsFor}
use Rattle.abt_world.specs.Steps.{IsConnAt}
use Rattle.abt_world.proofs.Sendings.{conn_lawful}
use Rattle.abt_world.proofs.Standings.{some_same}
use Rattle.abt_world.proofs.world.World.progress.Goals as goal

pub returns : goal.returns
returns c net events stands =
    let past = facts_after net events in
    let connections = c.self.inside.connections.items in
    let place = c.from-place.result in
    let connection = c.index.result.now in
    let before : StandsFor net events (record { net = c.self.inside.net.now; ports = c.self.inside.ports.items; connections = map seen connections; looks = c.self.inside.looks }) = subst (StandsFor net events) (sym c.self.view_is) stands in
    let rules : IsWithinRules net = subst IsWithinRules before.stands.net_is c.self.invariant.1 in
    let count = c.len.ensures in
    let within = c.if-place-len.false in
    let low : place < length connections = omega arith in
    let there : slice_get (map seen connections) place ≡ Some (seen connection) = slice_get-map seen connections place ∙ ap (option_map seen) (slice_get-get_or connections place connection low ∙ ap Some (sym c.index.ensures)) in
    let given : Some (seen connection) ≡ option_map (λ (k : Conn). connection_of k.vc (facts_of place past)) (conn_at net place) = sym there ∙ before.stands.connections place in
    subst (λ n. Some c.progress_of.result ≡ progress_in net past n) c.from-place.ensures (elim (cases_option (conn_at net place)) [
      | inl none ↦ absurd (let e = given ∙ ap (option_map (λ (k : Conn). connection_of k.vc (facts_of place past))) none in cc)
      | inr some ↦ (
          let conn = some.0 in
          let facts = facts_of place past in
          let view : seen connection ≡ connection_of conn.vc facts = some_same _ _ (given ∙ ap (option_map (λ (k : Conn). connection_of k.vc facts)) some.1) in
          let is : IsConnAt net past place conn facts = record { rules = rules; events = events; rates = stands.rates; led = refl; known = some.1; facts_are = refl } in
          let has = (conn_within net rules place conn some.1).has_hop in
          let left : after_last_of facts ≤ emitted_of facts = (timely (route_of conn) facts (conn_lawful net past place conn facts is) (omega (arith, has))).low in
          ap Some (c.progress_of.ensures conn.vc facts (ap (λ (v : ConnectionView). v.actor) view) (ap (λ (v : ConnectionView). v.index) view) left)
          ∙ sym (ap (option_map (λ (_ : Conn). progress_of facts)) some.1))
    ])
