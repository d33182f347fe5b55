use Rattle.std.proofs.Common.{rules, ◌≡◌, ◌≤◌, ◌++◌, ◌∷◌, [], length, sym, subst, arith}
use Rattle.abt_net.specs.Topology.{Topology}
use Rattle.abt_journal.specs.Foreign.{AreOfNet}
use Rattle.abt_history.specs.Ended.{CanBeWoven}
use Rattle.abt_history.specs.Legal.{IsLegal}
use Rattle.abt_links.proofs.Closing.{all_woven}
use Rattle.abt_links.proofs.Ended.{ended}
use Rattle.abt_links.proofs.Fitting.{fits_length}
use Rattle.abt_links.proofs.Promised.{sources_numbered, sources_counted}
use Rattle.abt_links.proofs.run.run_named.Goals as goal

pub run_workers-requires-clause-callers : goal.run_workers-requires-clause-callers
run_workers-requires-clause-callers g c κs within =
    let same : length c.args.scripts.now ≡ length c.args.net.now.conns = fits_length c.args.net.now.conns c.args.scripts.now c.requires.scripts in
    let few : length c.args.net.now.conns ≤ 1024 = c.conns.ensures.rules.connections in
    omega arith

pub end_sources-sources-requires-clause-numbers : goal.end_sources-sources-requires-clause-numbers
end_sources-sources-requires-clause-numbers g c =
    let worked = c.in_ok-accesses.field-0 in
    sources_numbered c.args.net.now 0 c.args.scripts.now worked.accesses.items worked.sites.items c.in_ok-accesses.ensures.worked.sources

pub end_sources-sources-requires-clause-room : goal.end_sources-sources-requires-clause-room
end_sources-sources-requires-clause-room g c =
    let worked = c.in_ok-accesses.field-0 in
    let counted : length worked.sites.items ≡ length c.args.scripts.now = sources_counted c.args.net.now 0 c.args.scripts.now worked.accesses.items worked.sites.items c.in_ok-accesses.ensures.worked.sources in
    let same : length c.args.scripts.now ≡ length c.args.net.now.conns = fits_length c.args.net.now.conns c.args.scripts.now c.requires.scripts in
    let made = c.in_ok-sites.ensures.count in
    let room = c.in_ok-sources.ensures.capacity in
    omega arith

pub returns-clause-ok : goal.returns-clause-ok
returns-clause-ok g c =
    let worked = c.in_ok-accesses.field-0 in
    let joined : c.in_ok-seats.seats.items ≡ (worked.accesses.items ++ worked.links.items) ++ worked.operator ∷ [] = search rules in
    ended c.args.net.now c.args.scripts.now c.args.operations.now c.args.plan.workers worked c.in_ok-seats.seats.items _ c.requires.scripts c.in_ok-accesses.ensures.worked joined
    c.in_ok-journals.ensures.histories c.in_ok-journals.ensures.receipts c.end_sources-sources.ensures.journals

pub returns-clause-woven : goal.returns-clause-woven
returns-clause-woven g c =
    let net : Topology = g.N.Place.net in
    let ports = c.end_ports-states in
    let ends = c.end_sources-sources in
    let legal : IsLegal net ends.result.1 = subst (IsLegal net) c.again-legal.ensures.value c.again-legal.ensures.legal in
    let of : AreOfNet net ports.result.0.items = subst (λ (n : Topology). AreOfNet n ports.result.0.items) (sym c.requires.net) c.in_ok-journals.ensures.net in
    subst (λ (n : Topology). CanBeWoven n c.in_ok-journals.journals ends.result.0.items) c.requires.net
    (all_woven net ports.result.0.items c.in_ok-journals.journals ends.result.0.items ports.result.1 ends.result.1 legal c.in_ok-journals.ensures.value of ports.ensures ends.ensures.ended ends.ensures.seen)
