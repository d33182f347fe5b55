use Rattle.std.proofs.Common.{◌≡◌, Some, None, sym, ap, ◌∙◌, subst, refl, rules}
use Rattle.abt_node.specs.Table.{connection_at, with_connection, arrival_at, arrival_of, table_by_arrival}
use Rattle.abt_node.specs.Rows.{IsPlaceOf, connection_of, row_held}
use Rattle.abt_node.proofs.RowsLemmas.{AreKept-set, IsServed, served, table_of, get-IsPlaceOf-None, same_total}
use Rattle.abt_node.proofs.IndexLemmas.{IsIndexOf-set}
use Rattle.abt_node.proofs.ServedLemmas.{arrival_is, table_is_by_arrival}
use Rattle.abt_node.proofs.port.Port.arrive.Goals as goal

is_served : (c : goal.After-self-1) → IsServed c.self.inside.id c.self.inside.ledger.capacity c.self.inside.ledger.total c.self.inside.rows.items c.in-Some.place c.args.vc c.index_mut.result.now c.apply_arrival.new.self
is_served c =
    served c.self.inside.id c.self.inside.ledger.capacity c.self.inside.ledger.total c.self.inside.rows.items c.in-Some.place c.args.vc
    c.index_mut.result.now c.apply_arrival.new.self c.self.invariant.kept (search rules) c.index_mut.ensures.value (ap (λ row. row.vc) c.apply_arrival.ensures.row)

pub invariant_of-self : goal.invariant_of-self
invariant_of-self c =
    let there = c.index_mut.ensures.value in
    let place : IsPlaceOf c.self.inside.rows.items c.args.vc (Some c.in-Some.place) = search rules in
    let same = ap (λ row. row.vc) c.apply_arrival.ensures.row ∙ ap (λ row. row.vc) there in
    record {
      kept = AreKept-set c.self.inside.rows.items c.in-Some.place _ c.index_mut.result.now c.self.inside.ledger.total c.self.inside.ledger.total
          c.self.invariant.kept place.0 same
          (same_total c.self.inside.rows.items c.in-Some.place c.index_mut.result.now c.index_mut.result.now c.apply_arrival.new.self c.self.inside.ledger.total
          c.self.invariant.kept there place.0 (ap row_held c.apply_arrival.ensures.row));
      indexed = IsIndexOf-set c.self.inside.places c.self.inside.rows.items c.in-Some.place _ c.index_mut.result.now same c.self.invariant.indexed;
    }

pub returns-clause-value : goal.returns-clause-value
returns-clause-value c =
    subst (λ t. c.apply_arrival.result ≡ arrival_at t c.args.vc c.args.at) c.self.view_is
    (arrival_is (table_of c.self.inside.id c.self.inside.ledger.capacity c.self.inside.rows.items) c.args.vc c.args.at (connection_of c.index_mut.result.now)
    c.apply_arrival.result (is_served c).known c.apply_arrival.ensures.value)

pub returns-clause-table : goal.returns-clause-table
returns-clause-table c =
    rw (← c.self.view_is)
    ((is_served c).changed
    ∙ ap (λ row. with_connection (table_of c.self.inside.id c.self.inside.ledger.capacity c.self.inside.rows.items) c.args.vc (connection_of row)) c.apply_arrival.ensures.row
    ∙ table_is_by_arrival (table_of c.self.inside.id c.self.inside.ledger.capacity c.self.inside.rows.items) c.args.vc c.args.at (connection_of c.index_mut.result.now)
    _ (is_served c).known refl)

pub returns-in_default-clause-value : goal.returns-in_default-clause-value
returns-in_default-clause-value c =
    rw (← c.self.view_is) (sym (ap (arrival_of c.args.at) (get-IsPlaceOf-None c.self.inside.rows.items c.args.vc (search rules))))

pub returns-in_default-clause-table : goal.returns-in_default-clause-table
returns-in_default-clause-table c =
    rw (← c.self.view_is) (sym (ap (table_by_arrival (table_of c.self.inside.id c.self.inside.ledger.capacity c.self.inside.rows.items) c.args.vc c.args.at) (get-IsPlaceOf-None c.self.inside.rows.items c.args.vc (search rules))))

known : (c : goal.After-self-1) → connection_at c.args.self.now c.args.vc ≡ Some (connection_of c.index_mut.result.now)
known c = ap (λ t. connection_at t c.args.vc) (sym c.self.view_is) ∙ (is_served c).known

pub returns-clause-unknown_vc : goal.returns-clause-unknown_vc
returns-clause-unknown_vc c = rw (known c) (search (rules, c.apply_arrival.ensures.known))

pub returns-clause-not_ingress : goal.returns-clause-not_ingress
returns-clause-not_ingress c = rw (known c) (search (rules, c.apply_arrival.ensures.not_ingress))

pub returns-clause-clock_back : goal.returns-clause-clock_back
returns-clause-clock_back c = rw (known c) c.apply_arrival.ensures.clock_back

pub returns-clause-time_range : goal.returns-clause-time_range
returns-clause-time_range c = rw (known c) c.apply_arrival.ensures.time_range

unknown : (c : goal.In_default) → connection_at c.args.self.now c.args.vc ≡ None
unknown c = ap (λ t. connection_at t c.args.vc) (sym c.self.view_is) ∙ get-IsPlaceOf-None c.self.inside.rows.items c.args.vc (search rules)

pub returns-in_default-clause-unknown_vc : goal.returns-in_default-clause-unknown_vc
returns-in_default-clause-unknown_vc c = rw (unknown c) (search rules)

pub returns-in_default-clause-not_ingress : goal.returns-in_default-clause-not_ingress
returns-in_default-clause-not_ingress c = rw (unknown c) (search rules)

pub returns-in_default-clause-clock_back : goal.returns-in_default-clause-clock_back
returns-in_default-clause-clock_back c = rw (unknown c) (search rules)

pub returns-in_default-clause-time_range : goal.returns-in_default-clause-time_range
returns-in_default-clause-time_range c = rw (unknown c) (search rules)
