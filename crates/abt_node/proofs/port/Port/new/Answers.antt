use Rattle.abt_node.proofs.RowsLemmas.{AreKept-nil}
use Rattle.abt_node.proofs.IndexLemmas.{IsIndexOf-nil}
use Rattle.abt_node.proofs.port.Port.new.Goals as goal

pub invariant_of-result : goal.invariant_of-result
invariant_of-result c =
    rw c.in_ok-rows.ensures.items
    (record { kept = AreKept-nil _ c.new.ensures.total; indexed = IsIndexOf-nil c.in_ok-places.places c.in_ok-places.ensures.empty })
