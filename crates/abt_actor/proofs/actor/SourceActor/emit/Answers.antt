use Rattle.std.proofs.Common.{rules, ◌≢◌, ◌∙◌, sym, subst}
use Rattle.abt_rate.specs.Rate.{IsRate}
use Rattle.abt_facts.specs.Source.{Down}
use Rattle.abt_actor.specs.Actor.{ActorView}
use Rattle.abt_actor.specs.Sources.{actor_in}
use Rattle.abt_actor.proofs.Emitting.{sound_emission}
use Rattle.abt_actor.proofs.actor.SourceActor.emit.Goals as goal

-- the actor before
abbrev before : goal.After-self-in-Ok-1 → ActorView
before c = actor_in c.self.inside.running c.self.inside.store.kept c.self.inside.cells c.self.inside.clock

up : (c : goal.After-self-in-Ok-1) → (before c).state ≢ Down
up c = search rules

pub invariant_of-self : goal.invariant_of-self
invariant_of-self c =
    let source = c.in-Ok.ensures.ok in
    let state = c.emit.ensures.same in (
      c.self.invariant.0,
      sound_emission (before c) _ c.args.at c.in-Ok.next c.self.invariant.1
          (subst IsRate c.rate-rate.ensures.value c.rate-rate.ensures.rate) c.if-at-self.false (up c) (sym c.emit.ensures.value ∙ c.in-Ok.is) cc,
    )
