-- A source asks.
use Rattle.std.proofs.Common.{rules, ◌≡◌, ◌≢◌, ◌∙◌, refl, sym, ap, subst}
use Rattle.abt_facts.specs.Source.{Down}
use Rattle.abt_facts.specs.Cells.{emitted_of}
use Rattle.abt_model.specs.declared.outcome.Outcome.TheVariants.{Asked, AskRefused}
use Rattle.abt_source.specs.SourceFacts.{view_of}
use Rattle.abt_actor.specs.Actor.{ActorView}
use Rattle.abt_live.specs.Running.{actor_in, source_in, state_in}
use Rattle.abt_live.specs.Source.{AsksBy}
use Rattle.abt_live.specs.declared.running.Running.TheVariants.{Asking as IsAsking}
use Rattle.abt_live.proofs.AskedSources.{asks_in_vain, asks_out}
use Rattle.abt_live.proofs.live_source.LiveSource.ask.Goals as goal

pub returns-in-Ok : goal.returns-in-Ok
returns-in-Ok g c =
    let content = g.K.SeqStore.content in
    let before : ActorView = actor_in c.self.inside.running (content c.self.inside.store) c.self.inside.cells c.self.inside.clock in
    let after : ActorView = actor_in (IsAsking c.in-Ok.source) (content c.ask.new.store) c.self.inside.cells c.self.inside.clock in
    let up : state_in c.self.inside.running ≢ Down = search rules in
    let from = c.taken_out.ensures in
    let source : source_in c.taken_out.result ≡ before.source = ap source_in from in
    subst (λ (a : ActorView). AsksBy a c.args.rate (Asked c.in-Ok.request) after) c.self.view_is
    (asks_out before (source_in c.taken_out.result) (content c.self.inside.store) c.args.rate c.in-Ok.source c.in-Ok.request (content c.ask.new.store)
    up source refl c.in-Ok.ensures.ok
    (λ vc facts is. c.in-Ok.ensures.facts facts (emitted_of facts) (record {
      state_is = ap state_in from ∙ ap (λ a. a.state) is;
      view_is = source ∙ ap (λ a. a.source) is ∙ ap (λ v. view_of v facts) (sym (ap (λ s. s.vc) source ∙ ap (λ a. a.source.vc) is));
    })))

pub returns-in-Err : goal.returns-in-Err
returns-in-Err g c =
    let content = g.K.SeqStore.content in
    let before : ActorView = actor_in c.self.inside.running (content c.self.inside.store) c.self.inside.cells c.self.inside.clock in
    let up : state_in c.self.inside.running ≢ Down = search rules in
    let source : source_in c.taken_out.result ≡ before.source = ap source_in c.taken_out.ensures in
    let same = c.in-Err.ensures.same ∙ c.taken_out.ensures in
    subst (λ r. AsksBy c.args.self.now c.args.rate (AskRefused c.in-Err.fault)
    (actor_in r (content c.ask.new.store) c.self.inside.cells c.self.inside.clock)) (sym same)
    (subst (λ (a : ActorView). AsksBy a c.args.rate (AskRefused c.in-Err.fault)
    (actor_in c.self.inside.running (content c.ask.new.store) c.self.inside.cells c.self.inside.clock)) c.self.view_is
    (asks_in_vain before (source_in c.taken_out.result) c.args.rate (content c.ask.new.store) c.in-Err.fault up source c.in-Err.ensures.err))
