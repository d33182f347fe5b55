-- The net stands where one event more leaves it.
use Rattle.std.proofs.Common.{◌≡◌, ◌<◌, length, take, subst, arith}
use Rattle.std.proofs.lemmas.List.{take_all}
use Rattle.abt_model.specs.Run.{facts_after}
use Rattle.abt_audit.specs.Standing.{Stands}
use Rattle.abt_audit.proofs.Stood.{stands_on}
use Rattle.abt_audit.proofs.standing.stand_after.Goals as goal

pub loop-event-init : goal.loop-event-init
loop-event-init c = record { world_is = c.in_ok-world.ensures.value; sightings_are = c.new-sightings.ensures c.args.net.now }

pub loop-event-preserved : goal.loop-event-preserved
loop-event-preserved c =
    let net = c.args.net.now in
    let all = c.args.events.now in
    let i = c.loop-event.event-index in
    let stands = c.loop-event.invariant in
    let test = c.loop-event-test.true in
    let within = c.loop-event.auto.event-index-end in
    let low : i < length all = omega arith in
    let step = c.in_ok-outcome.ensures.outcome net (take i all) stands.world_is in
    stands_on net all i c.event-item.result c.step.new.self c.note.new.self low c.event-item.is step.1
    (c.in_ok-note.ensures (facts_after net (take i all)) stands.sightings_are step.0)

pub returns : goal.returns
returns c =
    let all = c.args.events.now in
    let i = c.loop-event.event-index in
    let test = c.loop-event-test.false in
    let within = c.loop-event.auto.event-index-end in
    let whole : take i all ≡ all = take_all i all (omega arith) in
    subst (λ es. Stands c.args.net.now es c.loop-event.world c.loop-event.sightings) whole c.loop-event.invariant
