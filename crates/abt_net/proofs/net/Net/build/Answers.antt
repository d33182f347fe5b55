use Rattle.std.proofs.Common.{refl, inr}
use Rattle.abt_net.specs.Topology.{Topology, IsWithinRules}
use Rattle.abt_net.specs.declared.fault.NetFault.TheVariants.{Memory}
use Rattle.abt_net.proofs.BuildLemmas.{refused_ok, refused_err, built_err}
use Rattle.abt_net.proofs.net.Net.build.Goals as goal

pub returns-in-Some-clause-ok : goal.returns-in-Some-clause-ok
returns-in-Some-clause-ok c =
    refused_ok _ _ (rw (c.deref.ensures.value, (c.deref-2).ensures.value) at c.in-Some.ensures)

pub returns-in-Some-clause-err : goal.returns-in-Some-clause-err
returns-in-Some-clause-err c =
    refused_err _ _ (rw (c.deref.ensures.value, (c.deref-2).ensures.value) at c.in-Some.ensures)

pub places_of-requires : goal.places_of-requires
places_of-requires c =
    let kept : IsWithinRules (record { capacities = c.args.capacities.items; conns = c.args.conns.items }) =
    rw (c.deref.ensures.value, (c.deref-2).ensures.value) at c.in_default.ensures in
    rw ((c.deref-3).ensures.value) kept.connections

pub returns-in_default-places_of-clause-ok : goal.returns-in_default-places_of-clause-ok
returns-in_default-places_of-clause-ok c =
    let net : Topology = record { capacities = c.args.capacities.items; conns = c.args.conns.items } in
    let kept : IsWithinRules net = rw (c.deref.ensures.value, (c.deref-2).ensures.value) at c.in_default.ensures in
    refused_ok net Memory (inr (refl, kept))

pub returns-in_default-places_of-clause-err : goal.returns-in_default-places_of-clause-err
returns-in_default-places_of-clause-err c =
    let net : Topology = record { capacities = c.args.capacities.items; conns = c.args.conns.items } in
    let kept : IsWithinRules net = rw (c.deref.ensures.value, (c.deref-2).ensures.value) at c.in_default.ensures in
    refused_err net Memory (inr (refl, kept))

pub invariant_of-result : goal.invariant_of-result
invariant_of-result c = record {
  rules = rw (c.deref.ensures.value, (c.deref-2).ensures.value) at c.in_default.ensures;
  indexed = rw ((c.deref-3).ensures.value) at c.in-Ok.ensures;
}

pub returns-clause-err : goal.returns-clause-err
returns-clause-err c = built_err _ _ (rw (c.deref.ensures.value, (c.deref-2).ensures.value) at c.in_default.ensures)
