-- The connection that an event of a world comes to.
use Rattle.std.proofs.Common.{◌≡◌, ℕ, List, map, refl, sym, ap, ◌∙◌}
use Rattle.std.specs.Prelude.{Some, option_map, slice_get}
use Rattle.std.proofs.lemmas.Option.{slice_get-map}
use Rattle.abt_net.specs.declared.conn.Conn.{Conn}
use Rattle.abt_net.specs.Topology.{Topology, IsWithinRules, conn_at}
use Rattle.abt_node.specs.Table.{Table}
use Rattle.abt_actor.specs.Actor.{actor_of}
use Rattle.abt_index.specs.FactIndex.{IsLogOf}
use Rattle.abt_model.specs.declared.event.Event.{Event}
use Rattle.abt_model.specs.Past.{facts_of}
use Rattle.abt_model.specs.Run.{facts_after}
use Rattle.abt_world.specs.declared.connection_state.ConnectionState.{ConnectionState}
use Rattle.abt_world.specs.ConnectionStates.{ConnectionView, connection_of}
use Rattle.abt_world.specs.Seen.{seen}
use Rattle.abt_world.specs.Standing.{StandsFor}
use Rattle.abt_world.specs.Steps.{IsConnAt}
use Rattle.abt_world.proofs.Standings.{state_at, some_same}

-- what is known of its course, which was found at its number
pub record IsReady (net : Topology) (events : List Event) (c : ℕ) (conn : Conn) (connection : ConnectionState) : Type 0 where
  pub at : IsConnAt net (facts_after net events) c conn (facts_of c (facts_after net events))
  pub log : IsLogOf (facts_of c (facts_after net events)) connection.log
  pub actor : connection.actor ≡ actor_of conn.vc (facts_of c (facts_after net events))

pub ready :
    (net : Topology) (events : List Event) (c : ℕ) (ports : List Table) (connections : List ConnectionState) (looks : ℕ) (conn : Conn) (connection : ConnectionState) → IsWithinRules net →
    StandsFor net events (record { net = net; ports = ports; connections = map seen connections; looks = looks }) → conn_at net c ≡ Some conn →
    slice_get connections c ≡ Some connection → IsReady net events c conn connection
ready net events c ports connections looks conn connection rules stands known there =
    let past = facts_after net events in
    let was : slice_get (map seen connections) c ≡ Some (seen connection) = slice_get-map seen connections c ∙ ap (option_map seen) there in
    let given = state_at net past (record { net = net; ports = ports; connections = map seen connections; looks = looks }) c conn stands.stands known in
    let is : seen connection ≡ connection_of conn.vc (facts_of c past) = some_same (seen connection) (connection_of conn.vc (facts_of c past)) (sym was ∙ given) in
    record {
      at = record { rules = rules; events = events; rates = stands.rates; led = refl; known = known; facts_are = refl };
      log = ap (λ (k : ConnectionView). k.index) is;
      actor = ap (λ (k : ConnectionView). k.actor) is;
    }
