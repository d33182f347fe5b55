use Rattle.std.proofs.Common.{◌≡◌, Some, sym, ap, ◌∙◌, subst, refl, rules}
use Rattle.abt_node.specs.Table.{answer_to, answer_by, table_by_answer}
use Rattle.abt_node.specs.Rows.{IsPlaceOf, connection_of, reservation_of}
use Rattle.abt_node.specs.declared.row.Row.{Row}
use Rattle.abt_node.proofs.RowsLemmas.{AreKept-set, IsServed, served, table_of, get-IsPlaceOf-None}
use Rattle.abt_node.proofs.IndexLemmas.{IsIndexOf-set}
use Rattle.abt_node.proofs.ServedLemmas.{answer_is, table_is_by_answer}
use Rattle.abt_node.proofs.port.Port.answer.Goals as goal

abbrev row_after : goal.After-self-1 → Row
row_after c = record { vc = c.index_mut.result.now.vc; grant = c.apply_answer.new.self; policer = c.index_mut.result.now.policer }

is_served : (c : goal.After-self-1) → IsServed c.self.inside.id c.self.inside.ledger.capacity c.self.inside.ledger.total c.self.inside.rows.items c.in-Some.place c.args.answer.now.terms.vc c.index_mut.result.now (row_after c)
is_served c =
    served c.self.inside.id c.self.inside.ledger.capacity c.self.inside.ledger.total c.self.inside.rows.items c.in-Some.place c.args.answer.now.terms.vc
    c.index_mut.result.now (row_after c) c.self.invariant.kept (search rules) c.index_mut.ensures.value refl

pub invariant_of-self : goal.invariant_of-self
invariant_of-self c =
    let there = c.index_mut.ensures.value in
    let place : IsPlaceOf c.self.inside.rows.items c.args.answer.now.terms.vc (Some c.in-Some.place) = search rules in
    let same = ap (λ row. row.vc) there in
    record {
      kept = AreKept-set c.self.inside.rows.items c.in-Some.place _ c.index_mut.result.now c.self.inside.ledger.total c.apply_answer.new.ledger.total
          c.self.invariant.kept place.0 same (rw (← there) c.apply_answer.ensures.total);
      indexed = IsIndexOf-set c.self.inside.places c.self.inside.rows.items c.in-Some.place _ c.index_mut.result.now same c.self.invariant.indexed;
    }

pub returns-clause-value : goal.returns-clause-value
returns-clause-value c =
    subst (λ t. c.apply_answer.result ≡ answer_to t c.args.answer.now) c.self.view_is
    (answer_is (table_of c.self.inside.id c.self.inside.ledger.capacity c.self.inside.rows.items) c.args.answer.now (connection_of c.index_mut.result.now)
    c.apply_answer.result (reservation_of c.apply_answer.new.self) (is_served c).known c.apply_answer.ensures.line)

pub returns-clause-table : goal.returns-clause-table
returns-clause-table c =
    rw (c.apply_answer.ensures.capacity, ← c.self.view_is)
    ((is_served c).changed
    ∙ table_is_by_answer (table_of c.self.inside.id c.self.inside.ledger.capacity c.self.inside.rows.items) c.args.answer.now (connection_of c.index_mut.result.now)
    c.apply_answer.result (reservation_of c.apply_answer.new.self) (is_served c).known c.apply_answer.ensures.line)

pub returns-in_default-clause-value : goal.returns-in_default-clause-value
returns-in_default-clause-value c =
    rw (← c.self.view_is) (sym (ap (answer_by c.args.answer.now) (get-IsPlaceOf-None c.self.inside.rows.items c.args.answer.now.terms.vc (search rules))))

pub returns-in_default-clause-table : goal.returns-in_default-clause-table
returns-in_default-clause-table c =
    rw (← c.self.view_is) (sym (ap (table_by_answer (table_of c.self.inside.id c.self.inside.ledger.capacity c.self.inside.rows.items) c.args.answer.now) (get-IsPlaceOf-None c.self.inside.rows.items c.args.answer.now.terms.vc (search rules))))
