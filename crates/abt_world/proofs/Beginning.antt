-- A world before the first event.
use Rattle.std.proofs.Common.{◌≡◌, ℕ, List, [], map, refl, sym, ap, ◌∙◌, length}
use Rattle.std.specs.Prelude.{option_map, slice_get}
use Rattle.std.proofs.lemmas.Option.{slice_get-map}
use Rattle.std.proofs.lemmas.List.{length-map}
use Rattle.std.proofs.lemmas.List.Elements.{All-nil}
use Rattle.abt_net.specs.declared.conn.Conn.{Conn}
use Rattle.abt_net.specs.Topology.{Topology, IsWithinRules}
use Rattle.abt_node.specs.Table.{Table}
use Rattle.abt_model.specs.Events.{AsksRate}
use Rattle.abt_model.specs.PortTable.{port_table}
use Rattle.abt_safety.specs.declared.violations.Violations.{Violations}
use Rattle.abt_world.specs.declared.connection_state.ConnectionState.{ConnectionState}
use Rattle.abt_world.specs.ConnectionStates.{ConnectionView, connection_of}
use Rattle.abt_world.specs.Seen.{seen}
use Rattle.abt_world.specs.Standing.{StandsFor}
use Rattle.abt_world.specs.Tallied.{IsTallied}
use Rattle.abt_world.proofs.Final.{AreOfPast, rates_pass, sums_pass, cells_pass}
use Rattle.abt_world.proofs.Tallying.{none_above, none_over, none_broken}

-- nothing happened yet, to any connection or port
pub record AreFresh (net : Topology) (ports : List Table) (connections : List ConnectionState) : Type 0 where
  pub tables : (p : ℕ) → slice_get ports p ≡ option_map (λ (_ : ℕ). port_table net [] p) (slice_get net.capacities p)
  pub fresh : map seen connections ≡ map (λ (conn : Conn). connection_of conn.vc []) net.conns

pub fresh_stands : (net : Topology) (ports : List Table) (connections : List ConnectionState) (looks : ℕ) → AreFresh net ports connections →
    StandsFor net [] (record { net = net; ports = ports; connections = map seen connections; looks = looks })
fresh_stands net ports connections looks are = record {
  rates = All-nil AsksRate;
  stands = record {
    net_is = refl;
    ports = are.tables;
    connections = λ k. ap (λ (l : List ConnectionView). slice_get l k) are.fresh ∙ slice_get-map (λ (conn : Conn). connection_of conn.vc []) net.conns k;
  };
}

pub fresh_number : (net : Topology) (ports : List Table) (connections : List ConnectionState) → AreFresh net ports connections → length connections ≡ length net.conns
fresh_number net ports connections are =
    sym (length-map connections seen) ∙ ap (λ (l : List ConnectionView). length l) are.fresh ∙ length-map net.conns (λ (conn : Conn). connection_of conn.vc [])

-- and nothing is unsafe
pub fresh_tallied : (net : Topology) (ports : List Table) (connections : List ConnectionState) (violations : Violations) → IsWithinRules net → AreFresh net ports connections →
    violations.above ≡ 0 → violations.over ≡ 0 → violations.broken ≡ 0 → IsTallied net ports (map seen connections) violations
fresh_tallied net ports connections violations rules fresh above over broken =
    let are : AreOfPast net [] connections ports = record { rules = rules; looks = 0; stands = fresh_stands net ports connections 0 fresh } in
    record {
      above = above ∙ sym (none_above net.conns connections ports (rates_pass net [] connections ports are));
      over = over ∙ sym (none_over ports (sums_pass net [] connections ports are));
      broken = broken ∙ sym (none_broken connections (cells_pass net [] connections ports are));
    }
