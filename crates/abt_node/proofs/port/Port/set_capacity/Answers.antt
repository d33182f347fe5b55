use Rattle.std.proofs.Common.{◌≡◌, ℕ, ◌∙◌, sym, ap, subst}
use Rattle.abt_ledger.specs.Capacity.{capacity_fault, capacity_answer, capacity_after}
use Rattle.abt_node.specs.Rows.{AreIndexed, connections_of}
use Rattle.abt_node.specs.Table.{Table, sum_of}
use Rattle.abt_node.proofs.RowsLemmas.{sum_of-connections_of}
use Rattle.abt_node.proofs.port.Port.set_capacity.Goals as goal

pub invariant_of-self : goal.invariant_of-self
invariant_of-self c = subst (λ n. AreIndexed c.self.inside.rows.items n c.self.inside.places) (sym c.set_capacity.ensures.total) c.self.invariant

pub returns-clause-value : goal.returns-clause-value
returns-clause-value c =
    let counted = c.self.invariant.kept.counted ∙ sym (sum_of-connections_of c.self.inside.rows.items c.self.invariant.kept.distinct) ∙ ap sum_of c.self.view_is in
    c.set_capacity.ensures.value ∙ ap (λ n. capacity_answer (capacity_fault n c.args.capacity)) counted

pub returns-clause-table : goal.returns-clause-table
returns-clause-table c =
    let counted = c.self.invariant.kept.counted ∙ sym (sum_of-connections_of c.self.inside.rows.items c.self.invariant.kept.distinct) in
    let table : ℕ → Table = λ u. record { id = c.self.inside.id; capacity = u; connections = connections_of c.self.inside.rows.items } in
    rw (← c.self.view_is)
    (ap table (c.set_capacity.ensures.capacity ∙ ap (λ n. capacity_after c.self.inside.ledger.capacity c.args.capacity (capacity_fault n c.args.capacity)) counted))

pub returns-clause-below_sum : goal.returns-clause-below_sum
returns-clause-below_sum c =
    let counted = c.self.invariant.kept.counted ∙ sym (sum_of-connections_of c.self.inside.rows.items c.self.invariant.kept.distinct) ∙ ap sum_of c.self.view_is in
    rw (← counted) c.set_capacity.ensures.below_sum

pub returns-clause-above_limit : goal.returns-clause-above_limit
returns-clause-above_limit c =
    let counted = c.self.invariant.kept.counted ∙ sym (sum_of-connections_of c.self.inside.rows.items c.self.invariant.kept.distinct) ∙ ap sum_of c.self.view_is in
    rw (← counted) c.set_capacity.ensures.above_limit
