use Rattle.std.proofs.Common.{◌≡◌, ◌<◌, ◌++◌, ◌^◌, ℕ, [], ◌∷◌, length, map, sym, subst, ap, ◌∙◌, arith}
use Rattle.std.specs.Prelude.{Some, slice_get, slice_set}
use Rattle.std.proofs.lemmas.Option.{slice_get-get_or}
use Rattle.std.proofs.lemmas.List.{length-map, length-set}
use Rattle.abt_net.specs.Topology.{IsWithinRules}
use Rattle.abt_node.specs.Table.{Table}
use Rattle.abt_model.specs.declared.event.Event.TheVariants.{Capacity}
use Rattle.abt_model.specs.Outcomes.{outcome_of}
use Rattle.abt_model.specs.Run.{facts_after}
use Rattle.abt_safety.specs.Holding.{held_by_port}
use Rattle.abt_world.specs.Seen.{seen}
use Rattle.abt_world.specs.Standing.{WorldView, StandsFor}
use Rattle.abt_world.proofs.Capping.{step_capped, step_elsewhere, held_capped}
use Rattle.abt_world.proofs.Standings.{headline_after}
use Rattle.abt_world.proofs.Tallying.{tallied_alone}
use Rattle.abt_world.proofs.world.World.at_port.Goals as goal

pub returns-then-place-len-clause-outcome : goal.returns-then-place-len-clause-outcome
returns-then-place-len-clause-outcome c net events stands =
    let world : WorldView = record { net = c.self.inside.net.now; ports = c.self.inside.ports.items; connections = map seen c.self.inside.connections.items; looks = c.self.inside.looks } in
    let before : StandsFor net events world = subst (StandsFor net events) (sym c.self.view_is) stands in
    let count = c.len.ensures in
    let behind = c.if-place-len.true in
    let place = c.from-place.ensures in
    step_elsewhere net events world c.args.port c.args.capacity c.count-self-inside.result before (omega arith)

pub returns-then-place-len-clause-headline : goal.returns-then-place-len-clause-headline
returns-then-place-len-clause-headline c net events stands =
    let net_is = ap (λ (w : WorldView). w.net) c.self.view_is ∙ stands.stands.net_is in
    headline_after net events (Capacity c.args.port c.args.capacity) (subst IsWithinRules net_is c.self.invariant.1) stands.rates tt

pub invariant_of-self-2 : goal.invariant_of-self-2
invariant_of-self-2 c =
    let net = c.self.inside.net.now in
    let ports = c.self.inside.ports.items in
    let connections = c.self.inside.connections.items in
    let p = c.counting.result in
    let old = c.index_mut-link.result.now in
    let new = c.set_capacity-outcome.new.port in
    let rules = c.self.invariant.1 in
    let count = c.len.ensures in
    let within = c.if-place-len.false in
    let place = c.counting.ensures.value in
    let low : c.counting.result < length ports = omega arith in
    let at : slice_get ports c.counting.result ≡ Some old = slice_get-get_or ports c.counting.result old low ∙ ap Some (sym c.index_mut-link.ensures.value) in
    let few : length net.conns < 2 ^ 63 = omega (arith, rules.connections) in
    let few_ports : length ports < 2 ^ 63 = omega (arith, rules.ports, c.self.invariant.3) in
    let told = tallied_alone net ports (map seen connections) c.counting.result old new c.self.inside.violations c.after-self-inside.result c.of_port-was.result c.of_port-is.result
    c.self.invariant.2 (length-map connections seen ∙ c.self.invariant.0) few few_ports at
    (λ vc q. subst (λ (t : Table). held_by_port vc (slice_set ports p t) q ≡ held_by_port vc ports q) (sym c.set_capacity-outcome.ensures.table) (held_capped ports p c.args.capacity old at vc q))
    (c.of_port-was.ensures.above, c.of_port-was.ensures.over, c.of_port-was.ensures.broken)
    (c.of_port-is.ensures.above, c.of_port-is.ensures.over, c.of_port-is.ensures.broken)
    c.after-self-inside.ensures.above c.after-self-inside.ensures.over c.after-self-inside.ensures.broken in
    (c.self.invariant.0, rules, told, length-set ports c.counting.result new ∙ c.self.invariant.3)

pub returns-clause-outcome : goal.returns-clause-outcome
returns-clause-outcome c net events stands =
    let ports = c.self.inside.ports.items in
    let old = c.index_mut-link.result.now in
    let new = c.set_capacity-outcome.new.port in
    let looks = c.count-self-inside-2.result in
    let world : WorldView = record { net = c.self.inside.net.now; ports = ports; connections = map seen c.self.inside.connections.items; looks = c.self.inside.looks } in
    let before : StandsFor net events world = subst (StandsFor net events) (sym c.self.view_is) stands in
    let rules : IsWithinRules net = subst IsWithinRules before.stands.net_is c.self.invariant.1 in
    let count = c.len.ensures in
    let within = c.if-place-len.false in
    let place = c.counting.ensures.value in
    let low : c.counting.result < length ports = omega arith in
    let at : slice_get ports c.counting.result ≡ Some old = slice_get-get_or ports c.counting.result old low ∙ ap Some (sym c.index_mut-link.ensures.value) in
    let step = step_capped net events world c.counting.result c.args.capacity looks c.set_capacity-outcome.result old new rules before at c.set_capacity-outcome.ensures.outcome c.set_capacity-outcome.ensures.table in
    subst (λ (n : ℕ). (c.set_capacity-outcome.result ≡ outcome_of net (facts_after net events) (Capacity n c.args.capacity))
    × StandsFor net (events ++ Capacity n c.args.capacity ∷ []) (record { net = world.net; ports = slice_set ports c.counting.result new; connections = world.connections; looks = looks }))
    (c.counting.ensures.value ∙ c.from-place.ensures) step

pub returns-clause-headline : goal.returns-clause-headline
returns-clause-headline c net events stands =
    let net_is = ap (λ (w : WorldView). w.net) c.self.view_is ∙ stands.stands.net_is in
    headline_after net events (Capacity c.args.port c.args.capacity) (subst IsWithinRules net_is c.self.invariant.1) stands.rates tt
