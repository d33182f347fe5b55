use Rattle.std.proofs.Common.{◌≡◌, sym, subst, ap, ◌∙◌, map}
use Rattle.abt_net.specs.Topology.{Topology, IsWithinRules}
use Rattle.abt_model.proofs.EveryPasts.{every_safe}
use Rattle.abt_world.specs.Seen.{seen}
use Rattle.abt_world.specs.Sound.{IsSound}
use Rattle.abt_world.specs.Standing.{WorldView, StandsFor}
use Rattle.abt_world.specs.Tallied.{IsTallied}
use Rattle.abt_world.proofs.Sounding.{nothing_said, nothing_tells, sound_counted, counted_sound, past_counts_nothing}
use Rattle.abt_world.proofs.Final.{AreOfPast}
use Rattle.abt_world.proofs.Standings.{headline_holds}
use Rattle.abt_world.proofs.world.World.safe.Goals as goal

pub returns-clause-state : goal.returns-clause-state
returns-clause-state c =
    let net = c.self.inside.net.now in
    let ports = c.self.inside.ports.items in
    let connections = map seen c.self.inside.connections.items in
    let looks = c.self.inside.looks in
    let violations = c.self.inside.violations in
    let kept = c.self.invariant.2 in (
      (λ yes. subst IsSound c.self.view_is (sound_counted net ports connections looks violations kept (nothing_said violations (sym c.is_safe.ensures ∙ yes)))),
      (λ sound. c.is_safe.ensures ∙ nothing_tells violations (counted_sound net ports connections looks violations kept (subst IsSound (sym c.self.view_is) sound))),
    )

pub returns-clause-value : goal.returns-clause-value
returns-clause-value c net events stands =
    let connections = c.self.inside.connections.items in
    let ports = c.self.inside.ports.items in
    let inside : StandsFor net events (record { net = c.self.inside.net.now; ports = ports; connections = map seen connections; looks = c.self.inside.looks }) = subst (StandsFor net events) (sym c.self.view_is) stands in
    let net_is : c.self.inside.net.now ≡ net = inside.stands.net_is in
    let rules : IsWithinRules net = subst IsWithinRules net_is c.self.invariant.1 in
    let are : AreOfPast net events connections ports = record { rules = rules; looks = c.self.inside.looks; stands = subst (λ n. StandsFor net events (record { net = n; ports = ports; connections = map seen connections; looks = c.self.inside.looks })) net_is inside } in
    let kept : IsTallied net ports (map seen connections) c.self.inside.violations = subst (λ (n : Topology). IsTallied n ports (map seen connections) c.self.inside.violations) net_is c.self.invariant.2 in (
      (λ _. every_safe net events rules stands.rates),
      (λ _. c.is_safe.ensures ∙ nothing_tells c.self.inside.violations (past_counts_nothing net events connections ports c.self.inside.violations are kept)),
    )

pub returns-clause-headline : goal.returns-clause-headline
returns-clause-headline c net events stands =
    let net_is = ap (λ (w : WorldView). w.net) c.self.view_is ∙ stands.stands.net_is in
    headline_holds net events (subst IsWithinRules net_is c.self.invariant.1) stands.rates
