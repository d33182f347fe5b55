use Rattle.std.proofs.Common.{◌≡◌, ◌+◌, ◌<◌, ◌≤◌, ℕ, zero, suc, List, [], ◌∷◌, ◌++◌, sym, subst, ap, ◌∙◌, length, take, drop, drop-cons, add-one, append_assoc, append-nil, refl, arith, string_bytes}
use Rattle.std.proofs.lemmas.List.{take_more, take_all}
use Rattle.std.specs.Prelude.{slice_get}
use Rattle.abt_model.specs.declared.event.Event.{Event}
use Rattle.abt_model.specs.declared.outcome.Outcome.{Outcome}
use Rattle.abt_model.specs.Outcomes.{outcome_of, after_event}
use Rattle.abt_model.specs.Past.{Past}
use Rattle.abt_model.specs.Run.{facts_after, outcomes_of}
use Rattle.abt_model.proofs.Runs.{outcomes_from_push, facts_from_push}
use Rattle.abt_net.specs.Topology.{Topology}
use Rattle.abt_text.specs.Text.{◌⋅◌}
use Rattle.abt_model.specs.Traces.{IsTrace}
use Rattle.abt_world.specs.Standing.{StandsFor}
use Rattle.abt_reason.specs.Ending.{ending_text}
use Rattle.abt_reason.specs.Explanation.{told_text, event_line, event_lines, IsExplanation}
use Rattle.abt_reason.specs.Grounds.{grounds_of}
use Rattle.abt_reason.specs.Sightings.{AreSightings}
use Rattle.abt_reason.proofs.explanation.explanation_of.Goals as goal

-- a line goes from the front of what is left to the end of the text
text_grows : (old new line left rest whole : List ℕ) → new ≡ old ++ line → left ≡ line ++ rest → old ++ left ≡ whole → new ++ rest ≡ whole
text_grows old new line left rest whole grown first all = rw (grown, append_assoc, ← first) all

next_lines : (net : Topology) (past : Past) (places : List ℕ) (i : ℕ) (events : List Event) (e : Event) → i < length events → e ≡ Rattle.std.proofs.Common.get_or events i e →
    event_lines net past places i (drop i events) ≡ event_line net past places i e ⋅ event_lines net (after_event net past e) places (i + 1) (drop (i + 1) events)
next_lines net past places i events e low is = rw (drop-cons events i e, ← is, add-one) refl

pub loop-index-preserved : goal.loop-index-preserved
loop-index-preserved c =
    let net = c.args.net.now in
    let all = c.args.events.now in
    let places = c.args.places.now in
    let i = c.loop-index.index in
    let e = c.index-events-index.result in
    let events = take i all in
    let past = facts_after net events in
    let stands = c.loop-index.invariant in
    let test = c.loop-index-test.true in
    let low : i < length all = omega arith in
    let more : take (i + 1) all ≡ events ++ e ∷ [] = take_more all i e low ∙ ap (λ (x : Event). events ++ x ∷ []) (sym c.index-events-index.is) in
    let step = c.in_ok-outcome.ensures.outcome net events stands.0 in
    let outcome = c.in_ok-outcome.outcome in
    let line : told_text (i + 1) c.place_at.result e c.grounds_of-grounds.result outcome ≡ event_line net past places i e =
    ap (λ p. told_text (i + 1) p e c.grounds_of-grounds.result outcome) c.place_at.ensures
    ∙ ap (λ g. told_text (i + 1) (slice_get places i) e g outcome) (c.grounds_of-grounds.ensures events stands.0 stands.1)
    ∙ ap (told_text (i + 1) (slice_get places i) e (grounds_of net past e)) step.0 in
    let past_is : facts_after net (take (i + 1) all) ≡ after_event net past e = ap (facts_after net) more ∙ facts_from_push net [] events e in
    let left = next_lines net past places i all e low c.index-events-index.is in
    let grown = text_grows _ _ _ _ _ _ (c.in_ok-push_told.ensures ∙ ap (λ (l : List ℕ). string_bytes c.loop-index.text ++ l) line) left stands.3 in (
      subst (λ es. StandsFor net es c.step.new.self) (sym more) step.1,
      subst (λ (p : Past). AreSightings net p c.note.new.self) (sym past_is) (c.in_ok-note.ensures past stands.1 step.0),
      c.in_ok-push.ensures.ok ∙ ap (λ os. os ++ outcome ∷ []) stands.2 ∙ ap (λ (o : Outcome). outcomes_of net events ++ o ∷ []) step.0
          ∙ sym (outcomes_from_push net [] events e) ∙ ap (outcomes_of net) (sym more),
      ap (λ (v : Past). string_bytes c.push_told.new.text ++ event_lines net v places (i + 1) (drop (i + 1) all)) past_is ∙ grown,
    )

none_left : (n : ℕ) (events : List Event) → length events ≤ n → drop n events ≡ []
none_left zero [] h = refl
none_left (suc n) [] h = refl
none_left zero (e ∷ events) h = absurd (omega (arith, h))
none_left (suc n) (e ∷ events) h = none_left n events (omega (arith, h))

pub returns : goal.returns
returns c =
    let net = c.args.net.now in
    let all = c.args.events.now in
    let places = c.args.places.now in
    let i = c.loop-index.index in
    let test = c.loop-index-test.false in
    let within = c.loop-index.auto.index-end in
    let over : length all ≤ i = omega arith in
    let whole : take i all ≡ all = take_all i all over in
    let none : drop i all ≡ [] = none_left i all over in
    let said = c.loop-index.invariant in
    let trace = c.in_ok-trace.trace in
    let lines : string_bytes c.loop-index.text ≡ event_lines net [] places 0 all =
    sym (append-nil _) ∙ ap (λ (l : List Event). string_bytes c.loop-index.text ++ event_lines net (facts_after net (take i all)) places i l) (sym none) ∙ said.3 in
    record {
      trace = trace;
      is_trace = subst (λ es. IsTrace net es trace) whole (c.in_ok-trace.ensures.trace net (take i all) said.0 said.2);
      is = c.in_ok-push_ending.ensures ∙ ap (λ (l : List ℕ). l ++ ending_text net.conns trace) lines;
    }
