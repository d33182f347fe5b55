use Rattle.std.proofs.Common.{◌≡◌, ◌+◌, ◌++◌, ◌<◌, ◌≤◌, [], ◌∷◌, List, length, take, subst, sym, ap, ◌∙◌, arith, append_assoc}
use Rattle.std.proofs.lemmas.List.{take_more, take_all}
use Rattle.abt_chart.specs.Tellings.{told_after}
use Rattle.abt_model.specs.declared.event.Event.{Event}
use Rattle.abt_world.specs.Standing.{StandsFor}
use Rattle.abt_chart.proofs.chart.carry.Goals as goal

pub loop-event-preserved : goal.loop-event-preserved
loop-event-preserved c = λ past stands.
    let net = c.args.net.now in
    let all = c.args.events.now in
    let i = c.loop-event.event-index in
    let e = c.event-item.result in
    let test = c.loop-event-test.true in
    let low : i < length all = omega arith in
    let more : take (i + 1) all ≡ take i all ++ e ∷ [] = take_more all i e low ∙ ap (λ (x : Event). take i all ++ x ∷ []) (sym c.event-item.is) in
    let whole : (past ++ take i all) ++ e ∷ [] ≡ past ++ take (i + 1) all =
    append_assoc past (take i all) (e ∷ []) ∙ ap (λ (l : List Event). past ++ l) (sym more) in
    let so_far = c.loop-event.invariant past stands in
    let ensured = c.in_ok-take.ensures in (
      subst (λ es. StandsFor net es c.take.new.world) whole (ensured.stands (past ++ take i all) so_far.0),
      λ was. ensured.told (past ++ take i all) so_far.0 (so_far.1 was) ∙ ap (told_after net) whole,
    )

pub returns-clause-stands : goal.returns-clause-stands
returns-clause-stands c = λ past stands.
    let all = c.args.events.now in
    let i = c.loop-event.event-index in
    let test = c.loop-event-test.false in
    let over : length all ≤ i = omega arith in
    subst (λ (l : List Event). StandsFor c.args.net.now (past ++ l) c.loop-event.world) (take_all i all over) (c.loop-event.invariant past stands).0
