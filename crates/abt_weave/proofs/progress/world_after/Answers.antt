use Rattle.std.proofs.Common.{◌≡◌, ◌∙◌, ◌+◌, ◌<◌, ◌++◌, ◌∷◌, [], ap, sym, subst, take, length, arith}
use Rattle.std.proofs.lemmas.List.{take_more}
use Rattle.abt_world.specs.Standing.{StandsFor}
use Rattle.abt_weave.proofs.progress.world_after.Goals as goal

pub loop-event-preserved : goal.loop-event-preserved
loop-event-preserved c =
    let low : c.loop-event.event-index < length c.args.events.now = omega arith in
    let more = take_more c.args.events.now c.loop-event.event-index c.event-item.result low in
    let is = more ∙ ap (λ e. take c.loop-event.event-index c.args.events.now ++ e ∷ []) (sym c.event-item.is) in
    subst (λ l. StandsFor c.args.given.now.net.now l c.carry_on.new.world) (sym is)
    (c.in_ok-carry_on.ensures c.args.given.now.net.now (take c.loop-event.event-index c.args.events.now) c.loop-event.invariant)
