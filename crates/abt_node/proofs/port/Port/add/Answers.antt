use Rattle.std.proofs.Common.{◌≢◌, All, refl, sym, ap, ◌∙◌, rules}
use Rattle.abt_node.specs.Table.{connection_at, held_at}
use Rattle.abt_node.proofs.RowsLemmas.{absent, AreKept-push, connections_of-push, is_none_of}
use Rattle.abt_node.proofs.IndexLemmas.{IsIndexOf-push}
use Rattle.abt_node.proofs.port.Port.add.Goals as goal

-- no row has the connection
is_new : (c : goal.After-push_reserved) → All (λ r. r.vc ≢ c.args.vc) c.self.inside.rows.items
is_new c =
    absent c.self.inside.rows.items c.args.vc c.self.invariant.kept.distinct
    (ap (λ t. connection_at t c.args.vc) c.self.view_is ∙ sym c.row_of.ensures ∙ is_none_of _ c.row_of.result (sym c.is_some.ensures ∙ c.if-is_some.false))

pub invariant_of-self-2 : goal.invariant_of-self-2
invariant_of-self-2 c =
    rw (c.push_reserved.ensures.items, c.reserve.ensures.items, c.opening-row.ensures.same)
    (record {
      kept = AreKept-push c.self.inside.rows.items c.opening-row.result c.self.inside.ledger.total c.self.invariant.kept
          (rw c.opening-row.ensures.vc (is_new c)) (ap held_at c.opening-row.ensures.value);
      indexed = IsIndexOf-push c.self.inside.places c.insert.new.self c.self.inside.rows.items c.opening-row.result
          (rw c.opening-row.ensures.vc (search rules)) c.self.invariant.indexed;
    })

pub returns-clause-ok : goal.returns-clause-ok
returns-clause-ok c =
    rw (c.push_reserved.ensures.items, c.reserve.ensures.items, c.opening-row.ensures.same, ← c.self.view_is)
    (ap (λ m. record { id = c.self.inside.id; capacity = c.self.inside.ledger.capacity; connections = m })
    (connections_of-push c.self.inside.rows.items c.opening-row.result (rw c.opening-row.ensures.vc (is_new c))
    ∙ rw (c.opening-row.ensures.vc, c.opening-row.ensures.value) refl))
