-- The connections so far, and those of the values that are left, are the connections.
use Rattle.std.proofs.Common.{◌≡◌, drop}
use Rattle.json.specs.Value.{items_view}
use Rattle.abt_entry.specs.NetLines.{each, conn_in}
use Rattle.abt_entry.proofs.Lists.{with_rest}
use Rattle.abt_entry.proofs.net.conns_in.Given as goal

abbrev pub invariant-loop-value : goal.invariant-loop-value
invariant-loop-value l =
    with_rest l.conns.items (each conn_in (items_view (drop l.value-index l.items))) ≡ each conn_in (items_view l.items)
