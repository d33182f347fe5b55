use Rattle.std.proofs.Common.{◌≡◌, ◌+◌, ◌<◌, ◌≤◌, ℕ, zero, suc, List, [], ◌∷◌, ◌++◌, sym, subst, ap, ◌∙◌, length, take, drop, map, drop-cons, add-one, append-nil, refl, arith}
use Rattle.std.proofs.lemmas.List.{take_more, take_all}
use Rattle.abt_model.specs.declared.event.Event.{Event}
use Rattle.abt_model.specs.declared.outcome.Outcome.{Outcome}
use Rattle.abt_model.specs.Outcomes.{outcome_of, after_event}
use Rattle.abt_model.specs.Past.{Past}
use Rattle.abt_model.specs.Run.{facts_after}
use Rattle.abt_model.proofs.Runs.{facts_from_push}
use Rattle.abt_net.specs.Topology.{Topology}
use Rattle.abt_world.specs.Standing.{StandsFor}
use Rattle.abt_reason.specs.Grounds.{grounds_of}
use Rattle.abt_reason.specs.Sightings.{AreSightings}
use Rattle.abt_check.specs.Seen.{seen}
use Rattle.abt_check.specs.Unable.{UnableView, pending, unable_at, unable_in, with_more}
use Rattle.abt_check.proofs.Unables.{IsGrown, grown, one_at_most}
use Rattle.abt_check.proofs.unable.unable_in.Goals as goal

dropped : (i : ℕ) (events : List Event) (e : Event) → i < length events → e ≡ Rattle.std.proofs.Common.get_or events i e → drop i events ≡ e ∷ drop (i + 1) events
dropped i events e low is = rw (drop-cons events i e, ← is, add-one) refl

pub loop-index-preserved : goal.loop-index-preserved
loop-index-preserved c =
    let net = c.args.net.now in
    let all = c.args.events.now in
    let most = c.args.most in
    let look = c.args.look in
    let i = c.loop-index.index in
    let e = c.index-events-index.result in
    let events = take i all in
    let past = facts_after net events in
    let stands = c.loop-index.invariant in
    let test = c.loop-index-test.true in
    let low : i < length all = omega arith in
    let more : take (i + 1) all ≡ events ++ e ∷ [] = take_more all i e low ∙ ap (λ (x : Event). events ++ x ∷ []) (sym c.index-events-index.is) in
    let step = c.in_ok-outcome.ensures.outcome net events stands.0 in
    let outcome = c.in_ok-outcome.outcome in
    let past_is : facts_after net (take (i + 1) all) ≡ after_event net past e = ap (facts_after net) more ∙ facts_from_push net [] events e in
    let found = unable_at look i (grounds_of net past e) (pending net past e) (outcome_of net past e) in
    let rest = unable_in look net (after_event net past e) (i + 1) (drop (i + 1) all) in
    let before = map seen c.loop-index.found.items in
    let left : unable_in look net past i (drop i all) ≡ found ++ rest = ap (unable_in look net past i) (dropped i all e low c.index-events-index.is) in
    let at : unable_at look i c.grounds_of-grounds.result c.pending-pending.result outcome ≡ found =
    ap (λ g. unable_at look i g c.pending-pending.result outcome) (c.grounds_of-grounds.ensures events stands.0 stands.1)
    ∙ ap (λ p. unable_at look i (grounds_of net past e) p outcome) (c.pending-pending.ensures net events stands.0 stands.1)
    ∙ ap (unable_at look i (grounds_of net past e) (pending net past e)) step.0 in
    let all_is : take most (before ++ (found ++ rest)) ≡ take most (unable_in look net [] 0 all) =
    ap (λ (l : List UnableView). take most (before ++ l)) (sym left) ∙ stands.2.whole_is in
    let after_is = c.in_ok-keep.ensures ∙ ap (with_more most before) at in (
      subst (λ es. StandsFor net es c.step.new.self) (sym more) step.1,
      subst (λ (p : Past). AreSightings net p c.note.new.self) (sym past_is) (c.in_ok-note.ensures past stands.1 step.0),
      subst (λ (p : Past). IsGrown most (map seen c.keep.new.found.items) (unable_in look net p (i + 1) (drop (i + 1) all)) (take most (unable_in look net [] 0 all))) (sym past_is)
          (grown most before found _ rest _ stands.2.within (one_at_most look i _ _ _) all_is after_is),
    )

none_left : (n : ℕ) (events : List Event) → length events ≤ n → drop n events ≡ []
none_left zero [] h = refl
none_left (suc n) [] h = refl
none_left zero (e ∷ events) h = absurd (omega (arith, h))
none_left (suc n) (e ∷ events) h = none_left n events (omega (arith, h))

pub returns : goal.returns
returns c =
    let net = c.args.net.now in
    let all = c.args.events.now in
    let most = c.args.most in
    let look = c.args.look in
    let i = c.loop-index.index in
    let test = c.loop-index-test.false in
    let within = c.loop-index.auto.index-end in
    let over : length all ≤ i = omega arith in
    let none : drop i all ≡ [] = none_left i all over in
    let found = map seen c.loop-index.found.items in
    let said = c.loop-index.invariant.2 in
    sym (take_all most found said.within)
    ∙ ap (take most) (sym (append-nil found))
    ∙ ap (λ (l : List Event). take most (found ++ unable_in look net (facts_after net (take i all)) i l)) (sym none)
    ∙ said.whole_is
