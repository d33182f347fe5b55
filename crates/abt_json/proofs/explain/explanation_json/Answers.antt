use Rattle.std.proofs.Common.{◌≡◌, ◌+◌, ◌<◌, ◌≤◌, ℕ, zero, suc, List, [], ◌∷◌, ◌++◌, sym, subst, ap, ◌∙◌, length, take, drop, drop-cons, add-one, append_assoc, append-nil, refl, arith}
use Rattle.std.proofs.lemmas.List.{take_more, take_all}
use Rattle.std.specs.Prelude.{slice_get}
use Rattle.abt_model.specs.declared.event.Event.{Event}
use Rattle.abt_model.specs.declared.outcome.Outcome.{Outcome}
use Rattle.abt_model.specs.Outcomes.{outcome_of, after_event}
use Rattle.abt_model.specs.Past.{Past}
use Rattle.abt_model.specs.Run.{facts_after, outcomes_of}
use Rattle.abt_model.proofs.Runs.{outcomes_from_push, facts_from_push}
use Rattle.abt_net.specs.Topology.{Topology}
use Rattle.abt_text.specs.Text.{◌⋅◌}
use Rattle.abt_model.specs.Traces.{IsTrace}
use Rattle.abt_world.specs.Standing.{StandsFor}
use Rattle.abt_reason.specs.Grounds.{grounds_of}
use Rattle.abt_reason.specs.Sightings.{AreSightings}
use Rattle.abt_json.specs.Objects.{end_objects}
use Rattle.abt_json.specs.Explained.{explained_object, event_object, event_objects, IsExplainedJson}
use Rattle.abt_json.proofs.explain.explanation_json.Goals as goal

-- an object goes from the front of what is left to the end of the text
text_grows : (old new line left rest whole : List ℕ) → new ≡ old ++ line → left ≡ line ++ rest → old ++ left ≡ whole → new ++ rest ≡ whole
text_grows old new line left rest whole grown first all = rw (grown, append_assoc, ← first) all

dropped : (i : ℕ) (events : List Event) (e : Event) → i < length events → e ≡ Rattle.std.proofs.Common.get_or events i e →
    drop i events ≡ e ∷ drop (i + 1) events
dropped i events e low is = rw (drop-cons events i e, ← is, add-one) refl

next_objects : (net : Topology) (past : Past) (lines : List ℕ) (i : ℕ) (events : List Event) (e : Event) → i < length events → e ≡ Rattle.std.proofs.Common.get_or events i e →
    event_objects net past lines i (drop i events) ≡ event_object net past lines i e ⋅ event_objects net (after_event net past e) lines (i + 1) (drop (i + 1) events)
next_objects net past lines i events e low is = ap (event_objects net past lines i) (dropped i events e low is)

pub loop-index-preserved : goal.loop-index-preserved
loop-index-preserved c =
    let net = c.args.net.now in
    let all = c.args.events.now in
    let lines = c.args.lines.now in
    let i = c.loop-index.index in
    let e = c.index-events-index.result in
    let events = take i all in
    let past = facts_after net events in
    let stands = c.loop-index.invariant in
    let test = c.loop-index-test.true in
    let low : i < length all = omega arith in
    let more : take (i + 1) all ≡ events ++ e ∷ [] = take_more all i e low ∙ ap (λ (x : Event). events ++ x ∷ []) (sym c.index-events-index.is) in
    let step = c.in_ok-outcome.ensures.outcome net events stands.0 in
    let outcome = c.in_ok-outcome.outcome in
    let line : explained_object (i + 1) c.line_at.result e c.grounds_of-grounds.result outcome ≡ event_object net past lines i e =
    ap (λ p. explained_object (i + 1) p e c.grounds_of-grounds.result outcome) c.line_at.ensures
    ∙ ap (λ g. explained_object (i + 1) (slice_get lines i) e g outcome) (c.grounds_of-grounds.ensures events stands.0 stands.1)
    ∙ ap (explained_object (i + 1) (slice_get lines i) e (grounds_of net past e)) step.0 in
    let past_is : facts_after net (take (i + 1) all) ≡ after_event net past e = ap (facts_after net) more ∙ facts_from_push net [] events e in
    let left = next_objects net past lines i all e low c.index-events-index.is in
    let grown = text_grows _ _ _ _ _ _ (c.in_ok-push_event_object.ensures ∙ ap (λ (l : List ℕ). c.loop-index.text.items ++ l) line) left stands.3 in (
      subst (λ es. StandsFor net es c.step.new.self) (sym more) step.1,
      subst (λ (p : Past). AreSightings net p c.note.new.self) (sym past_is) (c.in_ok-note.ensures past stands.1 step.0),
      c.in_ok-push.ensures.ok ∙ ap (λ os. os ++ outcome ∷ []) stands.2 ∙ ap (λ (o : Outcome). outcomes_of net events ++ o ∷ []) step.0
          ∙ sym (outcomes_from_push net [] events e) ∙ ap (outcomes_of net) (sym more),
      ap (λ (v : Past). c.push_event_object.new.text.items ++ event_objects net v lines (i + 1) (drop (i + 1) all)) past_is ∙ grown,
    )

none_left : (n : ℕ) (events : List Event) → length events ≤ n → drop n events ≡ []
none_left zero [] h = refl
none_left (suc n) [] h = refl
none_left zero (e ∷ events) h = absurd (omega (arith, h))
none_left (suc n) (e ∷ events) h = none_left n events (omega (arith, h))

pub returns : goal.returns
returns c =
    let net = c.args.net.now in
    let all = c.args.events.now in
    let lines = c.args.lines.now in
    let i = c.loop-index.index in
    let test = c.loop-index-test.false in
    let within = c.loop-index.auto.index-end in
    let over : length all ≤ i = omega arith in
    let whole : take i all ≡ all = take_all i all over in
    let none : drop i all ≡ [] = none_left i all over in
    let said = c.loop-index.invariant in
    let trace = c.in_ok-trace.trace in
    let traced = c.in_ok-trace.ensures.trace net (take i all) said.0 said.2 in
    let safe = c.in_ok-trace.ensures.headline net (take i all) said.0 (take i all) [] (append-nil (take i all)) in
    let objects : c.loop-index.text.items ≡ event_objects net [] lines 0 all =
    sym (append-nil _) ∙ ap (λ (l : List Event). c.loop-index.text.items ++ event_objects net (facts_after net (take i all)) lines i l) (sym none) ∙ said.3 in
    record {
      trace = trace;
      is_trace = subst (λ es. IsTrace net es trace) whole traced;
      is_safe = traced.safe.1 safe.safe;
      is = c.in_ok-push_end.ensures ∙ ap (λ (l : List ℕ). l ++ end_objects trace) objects;
    }
