use Rattle.std.proofs.Common.{◌≡◌, ◌+◌, ◌<◌, [], ◌∷◌, ◌++◌, sym, subst, ap, ◌∙◌, length, take, arith}
use Rattle.std.proofs.lemmas.List.{take_more, take_all}
use Rattle.abt_model.specs.declared.event.Event.{Event}
use Rattle.abt_model.specs.declared.outcome.Outcome.{Outcome}
use Rattle.abt_model.specs.Run.{outcomes_of}
use Rattle.abt_model.proofs.Runs.{outcomes_from_push}
use Rattle.abt_world.specs.Standing.{StandsFor}
use Rattle.abt_world.proofs.running.run.Goals as goal

pub loop-event-preserved : goal.loop-event-preserved
loop-event-preserved c =
    let net = c.args.net.now in
    let all = c.args.events.now in
    let i = c.loop-event.event-index in
    let e = c.event-item.result in
    let events = take i all in
    let stands = c.loop-event.invariant in
    let test = c.loop-event-test.true in
    let within = c.loop-event.auto.event-index-end in
    let low : i < length all = omega arith in
    let more : take (i + 1) all ≡ events ++ e ∷ [] = take_more all i e low ∙ ap (λ (x : Event). events ++ x ∷ []) (sym c.event-item.is) in
    let step = c.in_ok-step.ensures.outcome net events stands.0 in (
      subst (λ es. StandsFor net es c.step.new.self) (sym more) step.1,
      c.in_ok-push.ensures.ok ∙ ap (λ os. os ++ c.in_ok-step.field-0 ∷ []) stands.1 ∙ ap (λ (o : Outcome). outcomes_of net events ++ o ∷ []) step.0
          ∙ sym (outcomes_from_push net [] events e) ∙ ap (outcomes_of net) (sym more),
    )

pub returns-clause-headline : goal.returns-clause-headline
returns-clause-headline c before after is =
    let whole : take c.loop-event.event-index c.args.events.now ≡ c.args.events.now = (let test = c.loop-event-test.false in let within = c.loop-event.auto.event-index-end in take_all c.loop-event.event-index c.args.events.now (omega arith)) in
    c.end.ensures.headline c.args.net.now _ c.loop-event.invariant.0 before after (is ∙ sym whole)
