use Rattle.std.proofs.Common.{rules}
use Rattle.abt_links.proofs.Promised.{told_is}
use Rattle.abt_links.proofs.worker_results.fault_told.Goals as goal

pub returns : goal.returns
returns g c =
    told_is c.args.joined.now.operator _ c.args.joined.now.sources.items _ c.args.joined.now.links.items _ _ _ _ _ _ _ _ (search rules) c.deref.ensures.value c.deref-2.ensures.value c.fault_among.ensures c.fault_among-2.ensures c.graver-handles.ensures c.fault_in.ensures c.graver.ensures c.in_ok-fault.was c.from.ensures
