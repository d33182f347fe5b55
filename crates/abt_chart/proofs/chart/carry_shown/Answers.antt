use Rattle.std.proofs.Common.{◌≡◌, ℕ, ◌+◌, ◌++◌, ◌<◌, ◌≤◌, [], ◌∷◌, List, length, take, subst, sym, ap, ◌∙◌, arith, append_assoc}
use Rattle.std.proofs.lemmas.List.{take_more, take_all}
use Rattle.abt_chart.specs.Tellings.{told_after}
use Rattle.abt_model.specs.declared.event.Event.{Event}
use Rattle.abt_model.specs.Run.{facts_after, facts_from}
use Rattle.abt_world.specs.Standing.{StandsFor}
use Rattle.abt_chart.specs.declared.frame.Frame.{Frame}
use Rattle.abt_chart.specs.Frames.{frame_after, frames_from}
use Rattle.abt_chart.proofs.Frames.{frames_from_push, facts_from_append}
use Rattle.abt_chart.proofs.chart.carry_shown.Goals as goal

pub loop-event-preserved : goal.loop-event-preserved
loop-event-preserved c = λ past stands.
    let net = c.args.net.now in
    let all = c.args.events.now in
    let i = c.loop-event.event-index in
    let e = c.event-item.result in
    let test = c.loop-event-test.true in
    let low : i < length all = omega arith in
    let before = facts_after net past in
    let frame = c.in_ok-frame.frame in
    let more : take (i + 1) all ≡ take i all ++ e ∷ [] = take_more all i e low ∙ ap (λ (x : Event). take i all ++ x ∷ []) (sym c.event-item.is) in
    let joined : (past ++ take i all) ++ e ∷ [] ≡ past ++ (take i all ++ e ∷ []) = append_assoc past (take i all) (e ∷ []) in
    let whole : (past ++ take i all) ++ e ∷ [] ≡ past ++ take (i + 1) all = joined ∙ ap (λ (l : List Event). past ++ l) (sym more) in
    let so_far = c.loop-event.invariant past stands in
    let ensured = c.in_ok-take.ensures in
    let stands_now = ensured.stands (past ++ take i all) so_far.0 in
    let past_is : facts_after net ((past ++ take i all) ++ e ∷ []) ≡ facts_from net before (take i all ++ e ∷ []) =
    ap (facts_after net) joined ∙ facts_from_append net [] past (take i all ++ e ∷ []) in
    let frame_is : frame ≡ frame_after net (facts_from net before (take i all ++ e ∷ [])) =
    c.in_ok-frame.ensures.value ((past ++ take i all) ++ e ∷ []) stands_now ∙ ap (frame_after net) past_is in (
      subst (λ es. StandsFor net es c.take.new.world) whole stands_now,
      λ was. ensured.told (past ++ take i all) so_far.0 (so_far.1 was) ∙ ap (told_after net) whole,
      c.in_ok-push.ensures.ok ∙ ap (λ (l : List Frame). l ++ frame ∷ []) so_far.2
          ∙ ap (λ (f : Frame). frames_from net before (take i all) ++ f ∷ []) frame_is
          ∙ sym (frames_from_push net before (take i all) e) ∙ ap (frames_from net before) (sym more),
    )

all_taken : (events : List Event) (i : ℕ) → length events ≤ i → take i events ≡ events
all_taken events i over = take_all i events over

pub returns-clause-stands : goal.returns-clause-stands
returns-clause-stands c = λ past stands.
    let all = c.args.events.now in
    let i = c.loop-event.event-index in
    let test = c.loop-event-test.false in
    subst (λ (l : List Event). StandsFor c.args.net.now (past ++ l) c.loop-event.world) (all_taken all i (omega arith)) (c.loop-event.invariant past stands).0

pub returns-clause-told : goal.returns-clause-told
returns-clause-told c = λ past stands was.
    let all = c.args.events.now in
    let i = c.loop-event.event-index in
    let test = c.loop-event-test.false in
    (c.loop-event.invariant past stands).1 was ∙ ap (λ (l : List Event). told_after c.args.net.now (past ++ l)) (all_taken all i (omega arith))

pub returns-clause-frames : goal.returns-clause-frames
returns-clause-frames c = λ past stands.
    let all = c.args.events.now in
    let i = c.loop-event.event-index in
    let test = c.loop-event-test.false in
    (c.loop-event.invariant past stands).2 ∙ ap (frames_from c.args.net.now (facts_after c.args.net.now past)) (all_taken all i (omega arith))
