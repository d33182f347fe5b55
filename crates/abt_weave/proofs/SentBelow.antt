-- What was sent after some events was sent after all events that the same journals go on with.
use Rattle.std.proofs.Common.{◌≡◌, ℕ, ◌+◌, ◌-◌, ◌<◌, ◌≤◌, inl, inr, refl, ap, Bool, true, false, List, [], ◌∷◌, ◌++◌, length, ◌∙◌, sym, subst, Some, arith}
use Rattle.std.specs.Prelude.{◌==◌, ◌&&◌, ◌||◌, ◌⊎◌, if◌then◌else◌, slice_get, slice_index}
use Rattle.std.specs.List.{list_any}
use Rattle.std.proofs.lemmas.Bool.{false≢true, cases_eq, eq-eqb, eqb-true, or_cases}
use Rattle.std.proofs.lemmas.List.Folds.{list_any-append}
use Rattle.abt_cell.specs.Channel.{Channel}
use Rattle.abt_cell.specs.Message.{Terms, Reply, answer_to}
use Rattle.abt_keep.specs.Record.{KeptRecord}
use Rattle.abt_facts.specs.Source.{writes, written_for}
use Rattle.abt_keep.specs.declared.plan.StorePlan.TheVariants.{FailsAfter}
use Rattle.abt_node.specs.declared.reply.Onward.{Onward}
use Rattle.abt_node.specs.declared.reply.Onward.TheVariants.{Pass, Refuse, Drop}
use Rattle.abt_node.specs.declared.reply.Back.{Back}
use Rattle.abt_node.specs.declared.reply.Back.TheVariants.{Pass as PassBack}
use Rattle.abt_source.specs.declared.fault.AskFault.TheVariants.{Keep}
use Rattle.abt_gcra.specs.declared.verdict.Verdict.{Verdict}
use Rattle.abt_net.specs.declared.conn.Conn.{Conn}
use Rattle.abt_net.specs.Topology.{Topology, IsWithinRules, conn_at}
use Rattle.abt_facts.specs.declared.fact.Fact.{Fact}
use Rattle.abt_facts.specs.declared.fact.Fact.TheVariants.{Started as FactStarted, Crashed as FactCrashed, Stored, Asked as FactAsked, Heard as FactHeard, Emitted as FactEmitted, Delivered, Passed, Shut, Turned as FactTurned, Back as FactBack, Arrived as FactArrived}
use Rattle.abt_facts.specs.Sent.{is_sending, was_passed, was_shut, was_back}
use Rattle.abt_model.specs.declared.event.Event.{Event}
use Rattle.abt_model.specs.declared.event.Event.TheVariants.{Start, Ask, Crash, Emit, Arrive, Request, Turn, Answer, Told}
use Rattle.abt_model.specs.declared.outcome.Heard.TheVariants.{Raised, Refused}
use Rattle.abt_model.specs.declared.outcome.Outcome.{Outcome}
use Rattle.abt_model.specs.declared.outcome.Outcome.TheVariants.{Started, Asked, AskRefused, Crashed, Emitted, Arrived, Requested, Turned, Answered, Told as HasTold}
use Rattle.abt_model.specs.Outcomes.{conn_of, outcome_of, facts_added, after_event, write_adds}
use Rattle.abt_source.specs.SourceFacts.{request_of}
use Rattle.abt_model.specs.Past.{Past, facts_of}
use Rattle.abt_net.specs.Paths.{hop_of}
use Rattle.abt_model.proofs.Served.{conn_within}
use Rattle.abt_model.proofs.Worlds.{conn_cases, cases_option, facts_of-own, facts_of-other}
use Rattle.abt_model.specs.PortTable.{hop_visited}
use Rattle.abt_net.proofs.PathLemmas.{hop_at}
use Rattle.abt_journal.specs.declared.input.PortInput.{PortInput}
use Rattle.abt_journal.specs.declared.input.PortInput.TheVariants.{Request as RequestIn, Answer as AnswerIn}
use Rattle.abt_journal.specs.declared.input.PortReply.{PortReply}
use Rattle.abt_journal.specs.declared.input.PortReply.TheVariants.{Requested as RequestedOut, Answered as AnsweredOut}
use Rattle.abt_weave.specs.Projections.{Step, Visit, reply_of, input_of, past_of, visit, step_at, steps_on, entries_on}
use Rattle.abt_weave.specs.Stuck.{IsBeginning}
use Rattle.abt_weave.proofs.Candidates.{and_both}
use Rattle.abt_weave.proofs.Growth.{steps_none, steps_other}
use Rattle.abt_weave.proofs.PortEvents.{IsVisit, visit_by_input, visit_made, some_same}
use Rattle.abt_weave.proofs.Places.{step_made, own_number}
use Rattle.abt_weave.proofs.Prefixes.{begins_more, get_whole, get_last, get_more, any_rest}
use Rattle.abt_weave.proofs.Replays.{hop_here}

-- events that are less to each port and each source than others are
pub record IsBelow (net : Topology) (less more : List Event) : Type 0 where
  pub ports : (p : ℕ) → p < length net.capacities → IsBeginning (steps_on net p less) (steps_on net p more)
  pub conns : (c : ℕ) → c < length net.conns → IsBeginning (entries_on net c less) (entries_on net c more)

-- a test that only what a hop did can pass
pub record IsHopTest (test : Fact → Bool) : Type 0 where
  pub started : (now : ℕ) (kept : KeptRecord) → test (FactStarted now kept) ≡ false
  pub crashed : test FactCrashed ≡ false
  pub stored : (kept : KeptRecord) → test (Stored kept) ≡ false
  pub asked : (seq floor ask mark : ℕ) → test (FactAsked seq floor ask mark) ≡ false
  pub heard : (seq : ℕ) (granted : Bool) → test (FactHeard seq granted) ≡ false
  pub emitted : (cell at rate : ℕ) → test (FactEmitted cell at rate) ≡ false
  pub delivered : (seq : ℕ) → test (Delivered seq) ≡ false
  pub turned : (seq : ℕ) → test (FactTurned seq) ≡ false
  pub arrived : (cell at rate : ℕ) (verdict : Verdict) → test (FactArrived cell at rate verdict) ≡ false

-- what a hop did, by the event and its outcome
pub record HasPassed (test : Fact → Bool) (event : Event) (outcome : Outcome) : Type 0 where
  pub conn : ℕ
  pub hop : ℕ
  pub seq : ℕ
  pub event_is : event ≡ Request conn hop seq
  pub outcome_is : outcome ≡ Requested Pass
  pub passes : test (Passed seq hop) ≡ true

pub record HasRefused (test : Fact → Bool) (event : Event) (outcome : Outcome) : Type 0 where
  pub conn : ℕ
  pub hop : ℕ
  pub seq : ℕ
  pub answer : Reply
  pub event_is : event ≡ Request conn hop seq
  pub outcome_is : outcome ≡ Requested (Refuse answer)
  pub passes : test (Shut seq hop) ≡ true

pub record HasAnswered (test : Fact → Bool) (event : Event) (outcome : Outcome) (granted : Bool) : Type 0 where
  pub conn : ℕ
  pub hop : ℕ
  pub seq : ℕ
  pub event_is : event ≡ Answer conn hop seq granted
  pub outcome_is : outcome ≡ Answered PassBack
  pub passes : test (if granted then FactBack seq hop else Shut seq hop) ≡ true

abbrev pub HasDone : (Fact → Bool) → Event → Outcome → Type 0
HasDone test event outcome = HasPassed test event outcome ⊎ (HasRefused test event outcome ⊎ (HasAnswered test event outcome true ⊎ HasAnswered test event outcome false))

not_true : {A : Type 0} → (b : Bool) → b ≡ false → b ≡ true → A
not_true b off on = absurd (false≢true (sym off ∙ on))

-- one fact
one_fact : (test : Fact → Bool) (fact : Fact) → list_any test (fact ∷ []) ≡ true → test fact ≡ true
one_fact test fact h = elim (or_cases (test fact) false h) [ inl e ↦ e | inr e ↦ absurd (false≢true e) ]

one_not : {A : Type 0} → (test : Fact → Bool) (fact : Fact) → test fact ≡ false → list_any test (fact ∷ []) ≡ true → A
one_not test fact off h = not_true (test fact) off (one_fact test fact h)

write_not : {A : Type 0} → (test : Fact → Bool) (fact : Fact) (b : Bool) (kept : KeptRecord) → test fact ≡ false → test (Stored kept) ≡ false → list_any test (fact ∷ write_adds b kept) ≡ true → A
write_not test fact true kept off neither h = elim (or_cases (test fact) (list_any test (Stored kept ∷ [])) h) [ inl e ↦ not_true (test fact) off e | inr e ↦ one_not test (Stored kept) neither e ]
write_not test fact false kept off neither h = one_not test fact off h

delivery_not : {A : Type 0} → (test : Fact → Bool) → IsHopTest test → (b : Bool) (seq : ℕ) → list_any test (if b then Delivered seq ∷ [] else []) ≡ true → A
delivery_not test is true seq h = one_not test (Delivered seq) (is.delivered seq) h
delivery_not test is false seq h = absurd (false≢true h)

before_delivery : (test : Fact → Bool) → IsHopTest test → (fact : Fact) (b : Bool) (seq : ℕ) → list_any test (fact ∷ (if b then Delivered seq ∷ [] else [])) ≡ true → test fact ≡ true
before_delivery test is fact b seq h = elim (or_cases (test fact) (list_any test (if b then Delivered seq ∷ [] else [])) h) [ inl e ↦ e | inr e ↦ delivery_not test is b seq e ]

pub done_by : (test : Fact → Bool) → IsHopTest test → (facts : List Fact) (event : Event) (outcome : Outcome) → list_any test (facts_added facts event outcome) ≡ true → HasDone test event outcome
done_by test is facts (Request c hop seq) (Requested Pass) h = inl (record { conn = c; hop = hop; seq = seq; event_is = refl; outcome_is = refl; passes = before_delivery test is (Passed seq hop) (hop == 1) seq h })
done_by test is facts (Request c hop seq) (Requested (Refuse answer)) h = inr (inl (record { conn = c; hop = hop; seq = seq; answer = answer; event_is = refl; outcome_is = refl; passes = before_delivery test is (Shut seq hop) (hop == 1) seq h }))
done_by test is facts (Request c hop seq) (Requested (Drop cause)) h = delivery_not test is (hop == 1) seq h
done_by test is facts (Answer c hop seq true) (Answered PassBack) h = inr (inr (inl (record { conn = c; hop = hop; seq = seq; event_is = refl; outcome_is = refl; passes = one_fact test (FactBack seq hop) h })))
done_by test is facts (Answer c hop seq false) (Answered PassBack) h = inr (inr (inr (record { conn = c; hop = hop; seq = seq; event_is = refl; outcome_is = refl; passes = one_fact test (Shut seq hop) h })))
done_by test is facts (Start c now) Started h = one_not test _ (is.started now _) h
done_by test is facts (Ask c rate plan) (Asked request) h = write_not test _ (writes facts rate) (written_for facts rate) (is.asked request.seq request.floor request.ask _) (is.stored _) h
done_by test is facts (Ask c rate FailsAfter) (AskRefused Keep) h = one_not test _ (is.stored _) h
done_by test is facts (Crash c) Crashed h = one_not test _ is.crashed h
done_by test is facts (Emit c now) (Emitted cell next) h = one_not test _ (is.emitted cell now _) h
done_by test is facts (Arrive c cell at) (Arrived verdict) h = one_not test _ (is.arrived cell at _ verdict) h
done_by test is facts (Turn c seq) Turned h = one_not test _ (is.turned seq) h
done_by test is facts (Told c seq granted) (HasTold Raised) h = one_not test _ (is.heard seq true) h
done_by test is facts (Told c seq granted) (HasTold Refused) h = one_not test _ (is.heard seq false) h
done_by test is facts event outcome h = absurd (false≢true h)

-- a step that a fact leaves
abbrev pub Leaving : Type 1
Leaving = PortInput → PortReply → Type 0

pub record HasStep (net : Topology) (p : ℕ) (M : Leaving) (earlier : List Event) : Type 0 where
  pub i : ℕ
  pub step : Step
  pub at : slice_get (steps_on net p earlier) i ≡ Some step
  pub is : M step.input step.reply

step_on : (net : Topology) (p : ℕ) (M : Leaving) (earlier : List Event) (event : Event) → HasStep net p M earlier → HasStep net p M (event ∷ earlier)
step_on net p M earlier event has = record {
  i = has.i;
  step = has.step;
  at = get_whole (steps_on net p earlier) (steps_on net p (event ∷ earlier)) has.i has.step (begins_more (steps_on net p earlier) (step_at p (length (steps_on net p earlier)) (visit net (past_of net earlier) event))) has.at;
  is = has.is;
}

step_new : (net : Topology) (p : ℕ) (M : Leaving) (earlier : List Event) (event : Event) (v : Visit) → visit net (past_of net earlier) event ≡ Some v → v.port ≡ p → M v.input v.reply → HasStep net p M (event ∷ earlier)
step_new net p M earlier event v is here m = subst (λ q. HasStep net q M (event ∷ earlier)) here (record {
  i = length (steps_on net v.port earlier);
  step = record { place = length (steps_on net v.port earlier); input = v.input; reply = v.reply };
  at = ap (λ l. slice_get l (length (steps_on net v.port earlier))) (step_made net earlier event v is) ∙ get_last (steps_on net v.port earlier) _;
  is = m;
})

-- An event that adds such a fact makes such a step, and the other way round.
pub record IsLeft (net : Topology) (c p : ℕ) (test : Fact → Bool) (M : Leaving) : Type 0 where
  pub makes : (past : Past) (event : Event) → conn_of event ≡ Some c → list_any test (facts_added (facts_of c past) event (outcome_of net past event)) ≡ true →
      (v : Visit) × (visit net past event ≡ Some v) × (v.port ≡ p) × M v.input v.reply
  pub adds : (past : Past) (event : Event) (v : Visit) → visit net past event ≡ Some v → v.port ≡ p → M v.input v.reply →
      (conn_of event ≡ Some c) × (list_any test (facts_added (facts_of c past) event (outcome_of net past event)) ≡ true)

own_facts : (net : Topology) (past : Past) (event : Event) (c : ℕ) → conn_of event ≡ Some c → facts_of c (after_event net past event) ≡ facts_added (facts_of c past) event (outcome_of net past event) ++ facts_of c past
own_facts net past event c same = facts_of-own net past event c same

fact_step : (net : Topology) (c p : ℕ) (test : Fact → Bool) (M : Leaving) → IsLeft net c p test M → (earlier : List Event) → list_any test (facts_of c (past_of net earlier)) ≡ true → HasStep net p M earlier
fact_step net c p test M left [] h = absurd (false≢true h)
fact_step net c p test M left (event ∷ earlier) h =
    let past = past_of net earlier in
    elim (conn_cases event c) [
      | inr differ ↦ step_on net p M earlier event (fact_step net c p test M left earlier (ap (list_any test) (sym (facts_of-other net past event c differ)) ∙ h))
      | inl same ↦ (
          let added = facts_added (facts_of c past) event (outcome_of net past event) in
          elim (or_cases (list_any test added) (list_any test (facts_of c past)) (sym (list_any-append test added (facts_of c past)) ∙ sym (ap (list_any test) (own_facts net past event c same)) ∙ h)) [
            | inl now ↦ (let made = left.makes past event same now in step_new net p M earlier event made.0 made.1 made.2 made.3)
            | inr before ↦ step_on net p M earlier event (fact_step net c p test M left earlier before)
          ])
    ]

facts_kept : (net : Topology) (c : ℕ) (test : Fact → Bool) (past : Past) (event : Event) → list_any test (facts_of c past) ≡ true → list_any test (facts_of c (after_event net past event)) ≡ true
facts_kept net c test past event h = elim (conn_cases event c) [
  | inr differ ↦ ap (list_any test) (facts_of-other net past event c differ) ∙ h
  | inl same ↦ ap (list_any test) (own_facts net past event c same) ∙ any_rest test (facts_added (facts_of c past) event (outcome_of net past event)) (facts_of c past) h
]

step_fact : (net : Topology) (c p : ℕ) (test : Fact → Bool) (M : Leaving) → IsLeft net c p test M → (earlier : List Event) (i : ℕ) (step : Step) → slice_get (steps_on net p earlier) i ≡ Some step → M step.input step.reply →
    list_any test (facts_of c (past_of net earlier)) ≡ true
step_fact net c p test M left [] i step at m = absurd (cc)
step_fact net c p test M left (event ∷ earlier) i step at m =
    let past = past_of net earlier in
    let Goal = list_any test (facts_of c (after_event net past event)) ≡ true in
    let old : slice_get (steps_on net p earlier) i ≡ Some step → Goal = λ before. facts_kept net c test past event (step_fact net c p test M left earlier i step before m) in
    elim (cases_option (visit net past event)) [
      | inl none ↦ old (ap (λ l. slice_get l i) (sym (steps_none net earlier event p none)) ∙ at)
      | inr some ↦ (elim (cases_eq some.0.port p) [
        | inr differ ↦ old (ap (λ l. slice_get l i) (sym (steps_other net earlier event p some.0 some.1 differ)) ∙ at)
        | inl same ↦ (
            let v = some.0 in
            let made = subst (λ q. steps_on net q (event ∷ earlier) ≡ steps_on net q earlier ++ record { place = length (steps_on net q earlier); input = v.input; reply = v.reply } ∷ []) same (step_made net earlier event v some.1) in
            get_more (steps_on net p earlier) (record { place = length (steps_on net p earlier); input = v.input; reply = v.reply }) i step (ap (λ l. slice_get l i) (sym made) ∙ at) Goal old
            (λ last is. (
            let its = left.adds past event v some.1 same (subst (λ (s : Step). M s.input s.reply) (sym is) m) in
            ap (list_any test) (own_facts net past event c its.0) ∙ list_any-append test (facts_added (facts_of c past) event (outcome_of net past event)) (facts_of c past)
            ∙ ap (λ b. b || list_any test (facts_of c past)) its.1)))
      ])
    ]

left_below : (net : Topology) (c p : ℕ) (test : Fact → Bool) (M : Leaving) → IsLeft net c p test M → (less more : List Event) → IsBeginning (steps_on net p less) (steps_on net p more) →
    list_any test (facts_of c (past_of net less)) ≡ true → list_any test (facts_of c (past_of net more)) ≡ true
left_below net c p test M left less more begins h =
    let has = fact_step net c p test M left less h in
    step_fact net c p test M left more has.i has.step (get_whole (steps_on net p less) (steps_on net p more) has.i has.step begins has.at) has.is

-- the steps that leave a hop's facts of a number
abbrev pub Passing : Channel → ℕ → Leaving
Passing vc s input reply = (request : Terms) × (input ≡ RequestIn request) × (request.vc ≡ vc) × (request.seq ≡ s) × (reply ≡ RequestedOut Pass)

abbrev pub Refusing : Channel → ℕ → Leaving
Refusing vc s input reply = (request : Terms) × (answer : Reply) × (input ≡ RequestIn request) × (request.vc ≡ vc) × (request.seq ≡ s) × (reply ≡ RequestedOut (Refuse answer))

abbrev pub Answering : Bool → Channel → ℕ → Leaving
Answering granted vc s input reply = (answer : Reply) × (input ≡ AnswerIn answer) × (answer.terms.vc ≡ vc) × (answer.terms.seq ≡ s) × (answer.granted ≡ granted) × (reply ≡ AnsweredOut PassBack)

-- an event by what it brings, and an outcome by what it replies
request_event : (vc : Channel) (facts : List Fact) (event : Event) (request : Terms) → input_of vc facts event ≡ Some (RequestIn request) → (d : ℕ) × (hop : ℕ) × (event ≡ Request d hop request.seq) × (vc ≡ request.vc)
request_event vc facts (Request d hop seq) request h =
    let same : RequestIn (request_of vc facts seq) ≡ RequestIn request = some_same h in
    let terms : request_of vc facts seq ≡ request = cc in
    (d, hop, ap (λ (t : Terms). Request d hop t.seq) terms, ap (λ (t : Terms). t.vc) terms)
request_event vc facts (Answer d hop seq granted) request h = absurd (cc)
request_event vc facts (Arrive d cell at) request h = absurd (cc)
request_event vc facts other request h = absurd (cc)

answer_event : (vc : Channel) (facts : List Fact) (event : Event) (answer : Reply) → input_of vc facts event ≡ Some (AnswerIn answer) → (d : ℕ) × (hop : ℕ) × (event ≡ Answer d hop answer.terms.seq answer.granted) × (vc ≡ answer.terms.vc)
answer_event vc facts (Answer d hop seq granted) answer h =
    let same : AnswerIn (answer_to (request_of vc facts seq) granted) ≡ AnswerIn answer = some_same h in
    let reply : answer_to (request_of vc facts seq) granted ≡ answer = cc in
    (d, hop, ap (λ (a : Reply). Answer d hop a.terms.seq a.granted) reply, ap (λ (a : Reply). a.terms.vc) reply)
answer_event vc facts (Request d hop seq) answer h = absurd (cc)
answer_event vc facts (Arrive d cell at) answer h = absurd (cc)
answer_event vc facts other answer h = absurd (cc)

requested_is : (outcome : Outcome) (onward : Onward) → reply_of outcome ≡ Some (RequestedOut onward) → outcome ≡ Requested onward
requested_is (Requested other) onward h = (let same : RequestedOut other ≡ RequestedOut onward = some_same h in let is : other ≡ onward = cc in ap Requested is)
requested_is (Answered back) onward h = absurd (cc)
requested_is (Arrived verdict) onward h = absurd (cc)
requested_is other onward h = absurd (cc)

answered_is : (outcome : Outcome) (back : Back) → reply_of outcome ≡ Some (AnsweredOut back) → outcome ≡ Answered back
answered_is (Answered other) back h = (let same : AnsweredOut other ≡ AnsweredOut back = some_same h in let is : other ≡ back = cc in ap Answered is)
answered_is (Requested onward) back h = absurd (cc)
answered_is (Arrived verdict) back h = absurd (cc)
answered_is other back h = absurd (cc)

-- a hop of a connection of the net
pub record IsHopOf (net : Topology) (c : ℕ) (conn : Conn) (j : ℕ) : Type 0 where
  pub rules : IsWithinRules net
  pub known : conn_at net c ≡ Some conn
  pub low : 1 ≤ j
  pub high : j ≤ length conn.path

own_hop : (net : Topology) (c : ℕ) (conn : Conn) (j : ℕ) → IsHopOf net c conn j → hop_of conn.path (slice_index conn.path (j - 1)) ≡ j
own_hop net c conn j its =
    let back : (j - 1) + 1 ≡ j = omega (arith, its.low) in
    hop_at conn.path (j - 1) (conn_within net its.rules c conn its.known).visits_once (omega (arith, its.low, its.high)) ∙ back

-- what comes to the port of that hop, and is about the connection, comes to that hop
pub located : (net : Topology) (c : ℕ) (conn : Conn) (j : ℕ) → IsHopOf net c conn j → (past : Past) (event : Event) (v : Visit) → (parts : IsVisit net past event v) → v.port ≡ slice_index conn.path (j - 1) → parts.conn.vc ≡ conn.vc →
    (conn_of event ≡ Some c) × (hop_visited event ≡ j)
located net c conn j its past event v parts here channel =
    let at_c = own_number net its.rules parts.c c parts.conn conn parts.known its.known channel in
    let same : parts.conn ≡ conn = some_same (sym parts.known ∙ ap (conn_at net) at_c ∙ its.known) in
    (parts.whose ∙ ap Some at_c, sym (hop_here net past its.rules event v parts) ∙ ap (hop_of parts.conn.path) here ∙ ap (λ (k : Conn). hop_of k.path (slice_index conn.path (j - 1))) same ∙ own_hop net c conn j its)

-- the port of a hop has had no more steps in one list of events than in another
abbrev pub AreBegunAt : Topology → Conn → (j : ℕ) → (less more : List Event) → Type 0
AreBegunAt net conn j less more = IsBeginning (steps_on net (slice_index conn.path (j - 1)) less) (steps_on net (slice_index conn.path (j - 1)) more)

pub begun_at : (net : Topology) (c : ℕ) (conn : Conn) (j : ℕ) → IsHopOf net c conn j → (less more : List Event) → IsBelow net less more → AreBegunAt net conn j less more
begun_at net c conn j its less more below = below.ports (slice_index conn.path (j - 1)) ((conn_within net its.rules c conn its.known).in_net (j - 1) 0 (omega (arith, its.low, its.high)))

both_true : (a b : ℕ) (c d : ℕ) → a ≡ b → c ≡ d → (a == b && c == d) ≡ true
both_true a b c d one other = ap (λ x. x && c == d) (eq-eqb a b one) ∙ eq-eqb c d other

first_true : (a b : Bool) → a ≡ true → (a || b) ≡ true
first_true a b h = ap (λ x. x || b) h

request_visit : (net : Topology) (past : Past) (c : ℕ) (conn : Conn) (event : Event) (d hop seq : ℕ) (onward : Onward) → conn_at net c ≡ Some conn → conn_of event ≡ Some c → event ≡ Request d hop seq → outcome_of net past event ≡ Requested onward →
    visit net past event ≡ Some (record { port = slice_index conn.path (hop - 1); input = RequestIn (request_of conn.vc (facts_of c past) seq); reply = RequestedOut onward })
request_visit net past c conn event d hop seq onward known whose is said =
    visit_made net past event c conn (RequestIn (request_of conn.vc (facts_of c past) seq)) (RequestedOut onward) whose known
    (ap (input_of conn.vc (facts_of c past)) is) (ap reply_of said)
    ∙ ap (λ e. Some (let w : Visit = record { port = slice_index conn.path (hop_visited e - 1); input = RequestIn (request_of conn.vc (facts_of c past) seq); reply = RequestedOut onward } in w)) is

answer_visit : (net : Topology) (past : Past) (c : ℕ) (conn : Conn) (event : Event) (d hop seq : ℕ) (granted : Bool) (back : Back) → conn_at net c ≡ Some conn → conn_of event ≡ Some c → event ≡ Answer d hop seq granted →
    outcome_of net past event ≡ Answered back →
    visit net past event ≡ Some (record { port = slice_index conn.path (hop - 1); input = AnswerIn (answer_to (request_of conn.vc (facts_of c past) seq) granted); reply = AnsweredOut back })
answer_visit net past c conn event d hop seq granted back known whose is said =
    visit_made net past event c conn (AnswerIn (answer_to (request_of conn.vc (facts_of c past) seq) granted)) (AnsweredOut back) whose known
    (ap (input_of conn.vc (facts_of c past)) is) (ap reply_of said)
    ∙ ap (λ e. Some (let w : Visit = record { port = slice_index conn.path (hop_visited e - 1); input = AnswerIn (answer_to (request_of conn.vc (facts_of c past) seq) granted); reply = AnsweredOut back } in w)) is

quiet_passes : (s j : ℕ) → IsHopTest (is_sending (Passed s j))
quiet_passes s j = record { started = λ a b. refl; crashed = refl; stored = λ a. refl; asked = λ a b c d. refl; heard = λ a b. refl; emitted = λ a b c. refl; delivered = λ a. refl; turned = λ a. refl; arrived = λ a b c d. refl }

quiet_shuts : (s j : ℕ) → IsHopTest (is_sending (Shut s j))
quiet_shuts s j = record { started = λ a b. refl; crashed = refl; stored = λ a. refl; asked = λ a b c d. refl; heard = λ a b. refl; emitted = λ a b c. refl; delivered = λ a. refl; turned = λ a. refl; arrived = λ a b c d. refl }

quiet_backs : (s j : ℕ) → IsHopTest (is_sending (FactBack s j))
quiet_backs s j = record { started = λ a b. refl; crashed = refl; stored = λ a. refl; asked = λ a b c d. refl; heard = λ a b. refl; emitted = λ a b c. refl; delivered = λ a. refl; turned = λ a. refl; arrived = λ a b c d. refl }

-- what a hop passed stands in the steps of its port alone
pass_left : (net : Topology) (c : ℕ) (conn : Conn) (s j : ℕ) → IsHopOf net c conn j → IsLeft net c (slice_index conn.path (j - 1)) (is_sending (Passed s j)) (Passing conn.vc s)
pass_left net c conn s j its = record {
  makes = λ past event whose h.
      (let facts = facts_of c past in
      let outcome = outcome_of net past event in
      elim (done_by (is_sending (Passed s j)) (quiet_passes s j) facts event outcome h) [
        | inl did ↦ (
            let both = and_both (did.seq == s) (did.hop == j) did.passes in (
              _,
              request_visit net past c conn event did.conn did.hop did.seq Pass its.known whose did.event_is did.outcome_is,
              ap (λ n. slice_index conn.path (n - 1)) (eqb-true did.hop j both.1),
              (_, refl, refl, eqb-true did.seq s both.0, refl),
            ))
        | inr (inl did) ↦ absurd (false≢true did.passes)
        | inr (inr (inl did)) ↦ absurd (false≢true did.passes)
        | inr (inr (inr did)) ↦ absurd (false≢true did.passes)
      ]);
  adds = λ past event v is here m.
      (let parts = visit_by_input net past event v (λ u e. (let clash = sym m.1 ∙ e in cc)) is in
      let its_event = request_event parts.conn.vc (facts_of parts.c past) event m.0 (parts.input ∙ ap (λ (i : PortInput). Some i) m.1) in
      let at = located net c conn j its past event v parts here (its_event.3 ∙ m.2) in
      let said = requested_is (outcome_of net past event) Pass (parts.reply ∙ ap (λ (r : PortReply). Some r) m.4) in
      let hop : its_event.1 ≡ j = ap hop_visited (sym its_event.2) ∙ at.1 in (
        at.0,
        ap (λ e. list_any (is_sending (Passed s j)) (facts_added (facts_of c past) e (outcome_of net past event))) its_event.2
            ∙ ap (λ o. list_any (is_sending (Passed s j)) (facts_added (facts_of c past) (Request its_event.0 its_event.1 m.0.seq) o)) said
            ∙ first_true (m.0.seq == s && its_event.1 == j) _ (both_true m.0.seq s its_event.1 j m.3 hop),
      ));
}

pub passed_below : (net : Topology) (c : ℕ) (conn : Conn) (s j : ℕ) → IsHopOf net c conn j → (less more : List Event) → AreBegunAt net conn j less more → was_passed (facts_of c (past_of net less)) s j ≡ true → was_passed (facts_of c (past_of net more)) s j ≡ true
passed_below net c conn s j its less more begins h = left_below net c (slice_index conn.path (j - 1)) (is_sending (Passed s j)) (Passing conn.vc s) (pass_left net c conn s j its) less more begins h

-- what was passed back
back_left : (net : Topology) (c : ℕ) (conn : Conn) (s j : ℕ) → IsHopOf net c conn j → IsLeft net c (slice_index conn.path (j - 1)) (is_sending (FactBack s j)) (Answering true conn.vc s)
back_left net c conn s j its = record {
  makes = λ past event whose h.
      (let facts = facts_of c past in
      let outcome = outcome_of net past event in
      elim (done_by (is_sending (FactBack s j)) (quiet_backs s j) facts event outcome h) [
        | inl did ↦ absurd (false≢true did.passes)
        | inr (inl did) ↦ absurd (false≢true did.passes)
        | inr (inr (inl did)) ↦ (
            let both = and_both (did.seq == s) (did.hop == j) did.passes in (
              _,
              answer_visit net past c conn event did.conn did.hop did.seq true PassBack its.known whose did.event_is did.outcome_is,
              ap (λ n. slice_index conn.path (n - 1)) (eqb-true did.hop j both.1),
              (_, refl, refl, eqb-true did.seq s both.0, refl, refl),
            ))
        | inr (inr (inr did)) ↦ absurd (false≢true did.passes)
      ]);
  adds = λ past event v is here m.
      (let parts = visit_by_input net past event v (λ u e. (let clash = sym m.1 ∙ e in cc)) is in
      let its_event = answer_event parts.conn.vc (facts_of parts.c past) event m.0 (parts.input ∙ ap (λ (i : PortInput). Some i) m.1) in
      let at = located net c conn j its past event v parts here (its_event.3 ∙ m.2) in
      let said = answered_is (outcome_of net past event) PassBack (parts.reply ∙ ap (λ (r : PortReply). Some r) m.5) in
      let hop : its_event.1 ≡ j = ap hop_visited (sym its_event.2) ∙ at.1 in (
        at.0,
        ap (λ e. list_any (is_sending (FactBack s j)) (facts_added (facts_of c past) e (outcome_of net past event))) its_event.2
            ∙ ap (λ g. list_any (is_sending (FactBack s j)) (facts_added (facts_of c past) (Answer its_event.0 its_event.1 m.0.terms.seq g) (outcome_of net past event))) m.4
            ∙ ap (λ o. list_any (is_sending (FactBack s j)) (facts_added (facts_of c past) (Answer its_event.0 its_event.1 m.0.terms.seq true) o)) said
            ∙ first_true (m.0.terms.seq == s && its_event.1 == j) _ (both_true m.0.terms.seq s its_event.1 j m.3 hop),
      ));
}

pub back_below : (net : Topology) (c : ℕ) (conn : Conn) (s j : ℕ) → IsHopOf net c conn j → (less more : List Event) → AreBegunAt net conn j less more → was_back (facts_of c (past_of net less)) s j ≡ true → was_back (facts_of c (past_of net more)) s j ≡ true
back_below net c conn s j its less more begins h = left_below net c (slice_index conn.path (j - 1)) (is_sending (FactBack s j)) (Answering true conn.vc s) (back_left net c conn s j its) less more begins h

-- what was shut, by a refusal or by a no
abbrev pub Shutting : Channel → ℕ → Leaving
Shutting vc s input reply = Refusing vc s input reply ⊎ Answering false vc s input reply

shut_left : (net : Topology) (c : ℕ) (conn : Conn) (s j : ℕ) → IsHopOf net c conn j → IsLeft net c (slice_index conn.path (j - 1)) (is_sending (Shut s j)) (Shutting conn.vc s)
shut_left net c conn s j its = record {
  makes = λ past event whose h.
      (let facts = facts_of c past in
      let outcome = outcome_of net past event in
      elim (done_by (is_sending (Shut s j)) (quiet_shuts s j) facts event outcome h) [
        | inl did ↦ absurd (false≢true did.passes)
        | inr (inl did) ↦ (
            let both = and_both (did.seq == s) (did.hop == j) did.passes in (
              _,
              request_visit net past c conn event did.conn did.hop did.seq (Refuse did.answer) its.known whose did.event_is did.outcome_is,
              ap (λ n. slice_index conn.path (n - 1)) (eqb-true did.hop j both.1),
              inl (_, did.answer, refl, refl, eqb-true did.seq s both.0, refl),
            ))
        | inr (inr (inl did)) ↦ absurd (false≢true did.passes)
        | inr (inr (inr did)) ↦ (
            let both = and_both (did.seq == s) (did.hop == j) did.passes in (
              _,
              answer_visit net past c conn event did.conn did.hop did.seq false PassBack its.known whose did.event_is did.outcome_is,
              ap (λ n. slice_index conn.path (n - 1)) (eqb-true did.hop j both.1),
              inr (_, refl, refl, eqb-true did.seq s both.0, refl, refl),
            ))
      ]);
  adds = λ past event v is here m. shut_adds past event v is here m;
}
  where
    shut_adds : (past : Past) (event : Event) (v : Visit) → visit net past event ≡ Some v → v.port ≡ slice_index conn.path (j - 1) → Shutting conn.vc s v.input v.reply →
        (conn_of event ≡ Some c) × (list_any (is_sending (Shut s j)) (facts_added (facts_of c past) event (outcome_of net past event)) ≡ true)
    shut_adds past event v is here (inl m) =
        let parts = visit_by_input net past event v (λ u e. (let clash = sym m.2 ∙ e in cc)) is in
        let its_event = request_event parts.conn.vc (facts_of parts.c past) event m.0 (parts.input ∙ ap (λ (i : PortInput). Some i) m.2) in
        let at = located net c conn j its past event v parts here (its_event.3 ∙ m.3) in
        let said = requested_is (outcome_of net past event) (Refuse m.1) (parts.reply ∙ ap (λ (r : PortReply). Some r) m.5) in
        let hop : its_event.1 ≡ j = ap hop_visited (sym its_event.2) ∙ at.1 in (
          at.0,
          ap (λ e. list_any (is_sending (Shut s j)) (facts_added (facts_of c past) e (outcome_of net past event))) its_event.2
              ∙ ap (λ o. list_any (is_sending (Shut s j)) (facts_added (facts_of c past) (Request its_event.0 its_event.1 m.0.seq) o)) said
              ∙ first_true (m.0.seq == s && its_event.1 == j) _ (both_true m.0.seq s its_event.1 j m.4 hop),
        )
    shut_adds past event v is here (inr m) =
        let parts = visit_by_input net past event v (λ u e. (let clash = sym m.1 ∙ e in cc)) is in
        let its_event = answer_event parts.conn.vc (facts_of parts.c past) event m.0 (parts.input ∙ ap (λ (i : PortInput). Some i) m.1) in
        let at = located net c conn j its past event v parts here (its_event.3 ∙ m.2) in
        let said = answered_is (outcome_of net past event) PassBack (parts.reply ∙ ap (λ (r : PortReply). Some r) m.5) in
        let hop : its_event.1 ≡ j = ap hop_visited (sym its_event.2) ∙ at.1 in (
          at.0,
          ap (λ e. list_any (is_sending (Shut s j)) (facts_added (facts_of c past) e (outcome_of net past event))) its_event.2
              ∙ ap (λ g. list_any (is_sending (Shut s j)) (facts_added (facts_of c past) (Answer its_event.0 its_event.1 m.0.terms.seq g) (outcome_of net past event))) m.4
              ∙ ap (λ o. list_any (is_sending (Shut s j)) (facts_added (facts_of c past) (Answer its_event.0 its_event.1 m.0.terms.seq false) o)) said
              ∙ first_true (m.0.terms.seq == s && its_event.1 == j) _ (both_true m.0.terms.seq s its_event.1 j m.3 hop),
        )

pub shut_below : (net : Topology) (c : ℕ) (conn : Conn) (s j : ℕ) → IsHopOf net c conn j → (less more : List Event) → AreBegunAt net conn j less more → was_shut (facts_of c (past_of net less)) s j ≡ true → was_shut (facts_of c (past_of net more)) s j ≡ true
shut_below net c conn s j its less more begins h = left_below net c (slice_index conn.path (j - 1)) (is_sending (Shut s j)) (Shutting conn.vc s) (shut_left net c conn s j its) less more begins h
