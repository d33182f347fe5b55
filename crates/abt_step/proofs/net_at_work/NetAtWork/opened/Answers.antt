-- An event more happens.
use Rattle.std.proofs.Common.{◌≡◌, ◌+◌, ◌<◌, [], ◌∷◌, ◌++◌, sym, subst, ap, ◌∙◌, length, take, arith}
use Rattle.std.proofs.lemmas.List.{take_more}
use Rattle.abt_model.specs.declared.event.Event.{Event}
use Rattle.abt_step.specs.Steps.{WorksAt}
use Rattle.abt_step.proofs.net_at_work.NetAtWork.opened.Goals as goal

pub loop-event-preserved : goal.loop-event-preserved
loop-event-preserved c =
    let net = c.args.net.now in
    let all = c.args.events.now in
    let i = c.loop-event.event-index in
    let e = c.event-item.result in
    let events = take i all in
    let test = c.loop-event-test.true in
    let within = c.loop-event.auto.event-index-end in
    let low : i < length all = omega arith in
    let more : take (i + 1) all ≡ events ++ e ∷ [] = take_more all i e low ∙ ap (λ (x : Event). events ++ x ∷ []) (sym c.event-item.is) in
    let step = c.in_ok-step.ensures net events c.loop-event.invariant in
    subst (λ es. WorksAt net es c.step.new.self) (sym more) step.1
