-- A path of a net has few hops.
use Rattle.abt_audit.proofs.Numbered.{path_fits}
use Rattle.abt_audit.proofs.finding.visit_missing.Goals as goal

pub hop_on-hop-requires : goal.hop_on-hop-requires
hop_on-hop-requires c =
    let there = c.in-Some.ensures.lookup in
    let within = rw (c.conns.ensures.value, c.from.ensures) at there.3.0 in
    let is = rw (c.conns.ensures.value, c.from.ensures) at there.1 in
    path_fits c.args.net.now c.args.number c.in-Some.conn.now c.conns.ensures.rules within is
