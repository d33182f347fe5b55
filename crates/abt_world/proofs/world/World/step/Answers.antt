use Rattle.std.proofs.Common.{◌≡◌, ◌++◌, [], ◌∷◌, sym, subst, ◌∙◌}
use Rattle.abt_model.specs.declared.event.Event.{Event}
use Rattle.abt_model.specs.declared.target.Target.TheVariants.{Port}
use Rattle.abt_model.specs.Outcomes.{outcome_of}
use Rattle.abt_model.specs.Run.{facts_after}
use Rattle.abt_model.specs.Targets.{target_of}
use Rattle.abt_model.proofs.Targets.{event_is}
use Rattle.abt_world.specs.Looked.{looks_of}
use Rattle.abt_world.specs.Standing.{StandsFor}
use Rattle.abt_world.proofs.world.World.step.Goals as goal

pub returns-in-Port-clause-outcome : goal.returns-in-Port-clause-outcome
returns-in-Port-clause-outcome c net events stands =
    let e = c.args.event.now in
    let is : target_of e ≡ Port c.in-Port.port c.in-Port.capacity = sym c.target.ensures.value ∙ c.in-Port.is in
    subst (λ (f : Event). (c.at_port.result ≡ outcome_of net (facts_after net events) f) × StandsFor net (events ++ f ∷ []) c.at_port.new.self)
    (sym (event_is e (Port c.in-Port.port c.in-Port.capacity) is)) (c.at_port.ensures.outcome net events stands)

pub returns-in-Port-clause-counted : goal.returns-in-Port-clause-counted
returns-in-Port-clause-counted c net events stands =
    let e = c.args.event.now in
    let is : target_of e ≡ Port c.in-Port.port c.in-Port.capacity = sym c.target.ensures.value ∙ c.in-Port.is in
    subst (λ (f : Event). c.at_port.new.self.looks ≡ looks_of net (facts_after net events) f)
    (sym (event_is e (Port c.in-Port.port c.in-Port.capacity) is)) (c.at_port.ensures.counted net events stands)
