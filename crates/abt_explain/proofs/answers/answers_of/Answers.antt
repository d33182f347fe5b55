use Rattle.std.proofs.Common.{◌≡◌, ◌+◌, ◌<◌, ◌≤◌, ℕ, zero, suc, List, [], ◌∷◌, ◌++◌, sym, subst, ap, ◌∙◌, length, take, drop, drop-cons, add-one, append_assoc, append-nil, refl, arith, string_bytes, sum_by}
use Rattle.std.proofs.lemmas.List.{take_more, take_all}
use Rattle.std.proofs.lemmas.List.Sums.{sum_by_push}
use Rattle.abt_model.specs.declared.event.Event.{Event}
use Rattle.abt_model.specs.declared.outcome.Outcome.{Outcome}
use Rattle.abt_model.specs.Outcomes.{outcome_of, after_event}
use Rattle.abt_model.specs.Past.{Past}
use Rattle.abt_model.specs.Run.{facts_after, outcomes_of}
use Rattle.abt_model.proofs.Runs.{outcomes_from_push, facts_from_push}
use Rattle.abt_net.specs.Topology.{Topology}
use Rattle.abt_text.specs.Text.{◌⋅◌}
use Rattle.abt_world.specs.Standing.{StandsFor}
use Rattle.abt_explain.specs.Answers.{answer_line, answer_lines, answer_text, granted_by, refused_by, units_asked}
use Rattle.abt_explain.proofs.answers.answers_of.Goals as goal

-- a line goes from the front of what is left to the end of the text
text_grows : (old new line left rest whole : List ℕ) → new ≡ old ++ line → left ≡ line ++ rest → old ++ left ≡ whole → new ++ rest ≡ whole
text_grows old new line left rest whole grown first all = rw (grown, append_assoc, ← first) all

next_lines : (net : Topology) (past : Past) (i : ℕ) (events : List Event) (e : Event) → i < length events → e ≡ Rattle.std.proofs.Common.get_or events i e →
    answer_lines net past i (drop i events) ≡ answer_line net past i e ⋅ answer_lines net (after_event net past e) (i + 1) (drop (i + 1) events)
next_lines net past i events e low is = rw (drop-cons events i e, ← is, add-one) refl

-- the outcomes of one event more
next_outcomes : (net : Topology) (events : List Event) (e : Event) (outcome : Outcome) → outcome ≡ outcome_of net (facts_after net events) e →
    outcomes_of net (events ++ e ∷ []) ≡ outcomes_of net events ++ outcome ∷ []
next_outcomes net events e outcome is = outcomes_from_push net [] events e ∙ ap (λ (o : Outcome). outcomes_of net events ++ o ∷ []) (sym is)

-- what they add to a sum over them
next_sum : (f : Outcome → ℕ) (net : Topology) (events all : List Event) (e : Event) (i : ℕ) (outcome : Outcome) (sum more : ℕ) →
    take (i + 1) all ≡ events ++ e ∷ [] → outcome ≡ outcome_of net (facts_after net events) e → sum ≡ sum_by f (outcomes_of net events) → more ≡ f outcome →
    sum + more ≡ sum_by f (outcomes_of net (take (i + 1) all))
next_sum f net events all e i outcome sum more taken is before adds =
    rw (taken, next_outcomes net events e outcome is, sum_by_push f (outcomes_of net events) outcome, before, adds) refl

pub loop-index-preserved : goal.loop-index-preserved
loop-index-preserved c =
    let net = c.args.net.now in
    let all = c.args.events.now in
    let i = c.loop-index.index in
    let e = c.index-events-index.result in
    let events = take i all in
    let past = facts_after net events in
    let before = c.loop-index.invariant in
    let test = c.loop-index-test.true in
    let low : i < length all = omega arith in
    let more : take (i + 1) all ≡ events ++ e ∷ [] = take_more all i e low ∙ ap (λ (x : Event). events ++ x ∷ []) (sym c.index-events-index.is) in
    let step = c.in_ok-outcome.ensures.outcome net events before.0 in
    let outcome = c.in_ok-outcome.outcome in
    let line : answer_text (i + 1) e c.units_asked-units.result outcome ≡ answer_line net past i e =
    ap (λ u. answer_text (i + 1) e u outcome) (c.units_asked-units.ensures net events before.0)
    ∙ ap (answer_text (i + 1) e (units_asked net past e)) step.0 in
    let past_is : facts_after net (take (i + 1) all) ≡ after_event net past e = ap (facts_after net) more ∙ facts_from_push net [] events e in
    let left = next_lines net past i all e low c.index-events-index.is in
    let grown = text_grows _ _ _ _ _ _ (c.in_ok-push_answer.ensures ∙ ap (λ (l : List ℕ). string_bytes c.loop-index.lines ++ l) line) left before.5 in (
      subst (λ es. StandsFor net es c.step.new.self) (sym more) step.1,
      next_sum granted_by net events all e i outcome c.loop-index.granted c.granted_by-granted.result more step.0 before.1 c.granted_by-granted.ensures.value,
      next_sum refused_by net events all e i outcome c.loop-index.refused c.refused_by-refused.result more step.0 before.2 c.refused_by-refused.ensures.value,
      omega (arith, before.3, c.granted_by-granted.ensures.within),
      omega (arith, before.4, c.refused_by-refused.ensures.within),
      ap (λ (v : Past). string_bytes c.push_answer.new.text ++ answer_lines net v (i + 1) (drop (i + 1) all)) past_is ∙ grown,
    )

none_left : (n : ℕ) (events : List Event) → length events ≤ n → drop n events ≡ []
none_left zero [] h = refl
none_left (suc n) [] h = refl
none_left zero (e ∷ events) h = absurd (omega (arith, h))
none_left (suc n) (e ∷ events) h = none_left n events (omega (arith, h))

pub returns-clause-lines : goal.returns-clause-lines
returns-clause-lines c =
    let net = c.args.net.now in
    let all = c.args.events.now in
    let i = c.loop-index.index in
    let test = c.loop-index-test.false in
    let over : length all ≤ i = omega arith in
    let none : drop i all ≡ [] = none_left i all over in
    sym (append-nil _) ∙ ap (λ (l : List Event). string_bytes c.loop-index.lines ++ answer_lines net (facts_after net (take i all)) i l) (sym none) ∙ c.loop-index.invariant.5

pub returns-clause-granted : goal.returns-clause-granted
returns-clause-granted c =
    let all = c.args.events.now in
    let i = c.loop-index.index in
    let test = c.loop-index-test.false in
    let within = c.loop-index.auto.index-end in
    let over : length all ≤ i = omega arith in
    let whole : take i all ≡ all = take_all i all over in
    c.loop-index.invariant.1 ∙ ap (λ (es : List Event). sum_by granted_by (outcomes_of c.args.net.now es)) whole

pub returns-clause-refused : goal.returns-clause-refused
returns-clause-refused c =
    let all = c.args.events.now in
    let i = c.loop-index.index in
    let test = c.loop-index-test.false in
    let within = c.loop-index.auto.index-end in
    let over : length all ≤ i = omega arith in
    let whole : take i all ≡ all = take_all i all over in
    c.loop-index.invariant.2 ∙ ap (λ (es : List Event). sum_by refused_by (outcomes_of c.args.net.now es)) whole
