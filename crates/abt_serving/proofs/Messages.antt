-- A message that was sent comes.
use Rattle.std.proofs.Common.{◌≡◌, ◌≢◌, ℕ, ◌+◌, ◌-◌, inl, inr, refl, ap, Bool, true, false, List, [], ◌∷◌, ◌++◌, length, ◌∙◌, sym, subst, Some, arith}
use Rattle.std.specs.Prelude.{◌==◌, ◌||◌, not, nat_lt, if◌then◌else◌, slice_index, All}
use Rattle.std.specs.List.{list_any}
use Rattle.std.proofs.lemmas.Bool.{false≢true, cond-true, cond-false, cases_Bool, eq-eqb, ne_eqb, and_from}
use Rattle.std.proofs.lemmas.List.{append_assoc}
use Rattle.abt_cell.specs.Message.{Terms, Reply, answer_to}
use Rattle.abt_cell.specs.declared.message.Rm.{Rm}
use Rattle.abt_cell.specs.declared.message.Rm.TheVariants as rm
use Rattle.abt_net.specs.declared.conn.Conn.{Conn}
use Rattle.abt_net.specs.Topology.{Topology, IsWithinRules, conn_at}
use Rattle.abt_facts.specs.declared.fact.Fact.{Fact}
use Rattle.abt_facts.specs.declared.fact.Fact.TheVariants.{Passed, Shut, Turned as FactTurned, Back}
use Rattle.abt_facts.specs.Requests.{is_ask_of, was_asked, floor_of, ask_of}
use Rattle.abt_facts.specs.Sent.{is_sending, request_is_at, answer_is_at, was_passed, was_turned, was_shut}
use Rattle.abt_source.specs.SourceFacts.{request_of}
use Rattle.abt_model.specs.declared.event.Event.{Event}
use Rattle.abt_model.specs.declared.event.Event.TheVariants.{Request, Turn, Answer}
use Rattle.abt_model.specs.declared.outcome.Cause.TheVariants.{NotSent, Unknown}
use Rattle.abt_model.specs.declared.outcome.Outcome.{Outcome}
use Rattle.abt_model.specs.declared.outcome.Outcome.TheVariants.{Requested, Answered, Turned, NotEnabled}
use Rattle.abt_model.specs.Answers.{is_hop}
use Rattle.abt_model.specs.Decision.{request_decision, answer_decision}
use Rattle.abt_model.specs.Events.{AsksRate}
use Rattle.abt_model.specs.Outcomes.{conn_of, port_of, outcome_of, facts_added}
use Rattle.abt_model.specs.Past.{Past, facts_of}
use Rattle.abt_model.specs.PortTable.{port_table}
use Rattle.abt_model.specs.Reserved.{reserved_on, capacity_of}
use Rattle.abt_model.proofs.Worlds.{conn_cases, facts_of-own, facts_of-other, outcome_of-known, lawful_at}
use Rattle.abt_journal.specs.declared.input.PortInput.{PortInput}
use Rattle.abt_journal.specs.declared.input.PortInput.TheVariants.{Request as RequestIn, Answer as AnswerIn}
use Rattle.abt_journal.specs.declared.input.PortReply.{PortReply}
use Rattle.abt_journal.specs.declared.input.PortReply.TheVariants.{Requested as RequestedOut, Answered as AnsweredOut}
use Rattle.abt_journal.specs.Replay.{reply_by}
use Rattle.abt_model.specs.declared.entry.SourceEntry.{SourceEntry}
use Rattle.abt_node.specs.Table.{Table}
use Rattle.abt_weave.specs.Projections.{Visit, reply_of, past_of, visit, entry_made, entry_at, entries_on}
use Rattle.abt_weave.specs.Stuck.{AreTurns, IsBeginning}
use Rattle.abt_weave.proofs.Alike.{AreRuns, tables_alike}
use Rattle.abt_weave.proofs.Asks.{terms_below}
use Rattle.abt_weave.proofs.PortEvents.{visit_made}
use Rattle.abt_weave.proofs.Prefixes.{begins_itself, any_rest}
use Rattle.abt_weave.proofs.Replays.{past_lawful, event_made}
use Rattle.abt_weave.proofs.Turns.{steps_turns}
use Rattle.abt_weave.proofs.AgainAt.{turns_ask}
use Rattle.abt_weave.proofs.Candidates.{and_both}
use Rattle.abt_serving.specs.Messages.{RequestLies, IsOnItsWay, AnswerLies, Lies, ComesNow, input_of}

-- what lies at a hop comes there
come_on : (a b : Bool) (o : Outcome) → a ≡ true → b ≡ true → (if not a then NotEnabled Unknown else (if not b then NotEnabled NotSent else o)) ≡ o
come_on true true o one other = refl
come_on true false o one other = absurd (false≢true other)
come_on false b o one other = absurd (false≢true one)

-- a visit at the port of a hop, by that port's table
seen_at : (net : Topology) (past : Past) (event : Event) (port other : ℕ) (input : PortInput) (reply : PortReply) → other ≡ port → reply ≡ reply_by (port_table net past other) input →
    visit net past event ≡ Some (record { port = other; input = input; reply = reply }) →
    visit net past event ≡ Some (record { port = port; input = input; reply = reply_by (port_table net past port) input })
seen_at net past event port other input reply here by is =
    is ∙ ap (λ (r : PortReply). Some (let v : Visit = record { port = other; input = input; reply = r } in v)) by
    ∙ ap (λ (p : ℕ). Some (let v : Visit = record { port = p; input = input; reply = reply_by (port_table net past p) input } in v)) here

request_comes : (net : Topology) (earlier : List Event) (port : ℕ) (request : Terms) → IsWithinRules net → All AsksRate earlier → RequestLies net (past_of net earlier) port request → ComesNow net earlier port (RequestIn request)
request_comes net earlier port request rules rates lies =
    let past = past_of net earlier in
    let c = lies.c in
    let conn = lies.conn in
    let facts = facts_of c past in
    let event = Request c lies.hop lies.seq in
    let terms = request_of conn.vc facts lies.seq in
    let onward = request_decision facts (reserved_on net past (port_of conn.path event)) (capacity_of net past (port_of conn.path event)) lies.hop terms in
    let says : outcome_of net past event ≡ Requested onward =
    outcome_of-known net past event c conn refl lies.stop.known ∙ come_on (is_hop (length conn.path) lies.hop) (request_is_at facts lies.seq lies.hop) (Requested onward) lies.stop.within lies.sent in
    let made = visit_made net past event c conn (RequestIn terms) (RequestedOut onward) refl lies.stop.known refl (ap reply_of says) in
    let by = (event_made net past rules (past_lawful net earlier rates) event _ made).0 in
    let differs : lies.hop ≢ 1 = λ e. omega (arith, e, lies.later) in
    record {
      turns = [];
      all = tt;
      event = event;
      asks = tt;
      far = ne_eqb lies.hop 1 differs;
      comes = subst (λ (t : Terms). visit net past event ≡ Some (record { port = port; input = RequestIn t; reply = reply_by (port_table net past port) (RequestIn t) })) (sym lies.is)
          (seen_at net past event port (slice_index conn.path (lies.hop - 1)) (RequestIn terms) (RequestedOut onward) lies.stop.port_is by made);
    }

-- an answer comes where it was sent, behind Turns that leave its terms and the table
answer_after : (net : Topology) (earlier turns : List Event) (port : ℕ) (answer : Reply) → IsWithinRules net → All AsksRate earlier → AreTurns net earlier turns → (lies : AnswerLies net (past_of net earlier) port answer) →
    answer_is_at (length lies.conn.path) (facts_of lies.c (past_of net (turns ++ earlier))) lies.seq lies.hop lies.granted ≡ true →
    request_of lies.conn.vc (facts_of lies.c (past_of net (turns ++ earlier))) lies.seq ≡ request_of lies.conn.vc (facts_of lies.c (past_of net earlier)) lies.seq → ComesNow net earlier port (AnswerIn answer)
answer_after net earlier turns port answer rules rates all lies sent same =
    let more = turns ++ earlier in
    let past = past_of net more in
    let c = lies.c in
    let conn = lies.conn in
    let facts = facts_of c past in
    let event = Answer c lies.hop lies.seq lies.granted in
    let terms = request_of conn.vc facts lies.seq in
    let back = answer_decision facts lies.hop (answer_to terms lies.granted) in
    let says : outcome_of net past event ≡ Answered back =
    outcome_of-known net past event c conn refl lies.stop.known ∙ come_on (is_hop (length conn.path) lies.hop) (answer_is_at (length conn.path) facts lies.seq lies.hop lies.granted) (Answered back) lies.stop.within sent in
    let made = visit_made net past event c conn (AnswerIn (answer_to terms lies.granted)) (AnsweredOut back) refl lies.stop.known refl (ap reply_of says) in
    let rates' = turns_ask net earlier turns all rates in
    let by = (event_made net past rules (past_lawful net more rates') event _ made).0 in
    let is : answer_to terms lies.granted ≡ answer = ap (λ (t : Terms). answer_to t lies.granted) same ∙ sym lies.is in
    let runs : AreRuns net more earlier = record { rules = rules; first = rates'; second = rates } in
    let table = tables_alike net more earlier runs port (steps_turns net earlier turns all port) in
    record {
      turns = turns;
      all = all;
      event = event;
      asks = tt;
      far = refl;
      comes = subst (λ (t : Table). visit net past event ≡ Some (record { port = port; input = AnswerIn answer; reply = reply_by t (AnswerIn answer) })) table
          (subst (λ (a : Reply). visit net past event ≡ Some (record { port = port; input = AnswerIn a; reply = reply_by (port_table net past port) (AnswerIn a) })) is
          (seen_at net past event port (slice_index conn.path (lies.hop - 1)) (AnswerIn (answer_to terms lies.granted)) (AnsweredOut back) lies.stop.port_is by made));
    }

turn_on : (b : Bool) → b ≡ true → (if not b then NotEnabled NotSent else Turned) ≡ Turned
turn_on true h = refl
turn_on false h = absurd (false≢true h)

yes_sent : (hops hop seq : ℕ) (facts : List Fact) (granted : Bool) → hop ≡ hops → granted ≡ true → was_turned facts seq ≡ true → answer_is_at hops facts seq hop granted ≡ true
yes_sent hops hop seq facts true same aye h = cond-true _ _ _ (eq-eqb hop hops same) ∙ h
yes_sent hops hop seq facts false same aye h = absurd (false≢true aye)

answer_comes : (net : Topology) (earlier : List Event) (port : ℕ) (answer : Reply) → IsWithinRules net → All AsksRate earlier → AnswerLies net (past_of net earlier) port answer → ComesNow net earlier port (AnswerIn answer)
answer_comes net earlier port answer rules rates lies = elim lies.sent [
  | inl sent ↦ answer_after net earlier [] port answer rules rates tt lies sent refl
  | inr passed ↦ (
      let past = past_of net earlier in
      let c = lies.c in
      let seq = lies.seq in
      let conn = lies.conn in
      let hops = length conn.path in
      let facts = facts_of c past in
      elim (cases_Bool (was_turned facts seq)) [
        | inl already ↦ answer_after net earlier [] port answer rules rates tt lies (yes_sent hops lies.hop seq facts lies.granted passed.0 passed.1 already) refl
        | inr before ↦ (
            let happens : outcome_of net past (Turn c seq) ≡ Turned = outcome_of-known net past (Turn c seq) c conn refl lies.stop.known ∙ turn_on (was_passed facts seq hops) passed.2 in
            let now : facts_of c (past_of net (Turn c seq ∷ earlier)) ≡ FactTurned seq ∷ facts = facts_of-own net past (Turn c seq) c refl ∙ ap (λ o. facts_added facts (Turn c seq) o ++ facts) happens in
            let turned : was_turned (facts_of c (past_of net (Turn c seq ∷ earlier))) seq ≡ true = ap (λ l. was_turned l seq) now ∙ ap (λ b. b || was_turned facts seq) (eq-eqb seq seq refl) in
            answer_after net earlier (Turn c seq ∷ []) port answer rules rates (record { conn = c; seq = seq; is = refl; happens = happens }, tt) lies
            (yes_sent hops lies.hop seq (facts_of c (past_of net (Turn c seq ∷ earlier))) lies.granted passed.0 passed.1 turned)
            (ap (λ (l : List Fact). request_of conn.vc l seq) now))
      ])
]

pub message_comes : (net : Topology) (earlier : List Event) (port : ℕ) (message : Rm) → IsWithinRules net → All AsksRate earlier → Lies net (past_of net earlier) port message → ComesNow net earlier port (input_of message)
message_comes net earlier port (rm.Request request) rules rates lies = request_comes net earlier port request rules rates lies
message_comes net earlier port (rm.Answer answer) rules rates lies = answer_comes net earlier port answer rules rates lies

-- more events add facts, and entries
facts_grow : (net : Topology) (more earlier : List Event) (c : ℕ) → (added : List Fact) × (facts_of c (past_of net (more ++ earlier)) ≡ added ++ facts_of c (past_of net earlier))
facts_grow net [] earlier c = ([], refl)
facts_grow net (event ∷ more) earlier c =
    let rest = facts_grow net more earlier c in
    let past = past_of net (more ++ earlier) in
    elim (conn_cases event c) [
      | inl same ↦ (
          let added = facts_added (facts_of c past) event (outcome_of net past event) in (
            added ++ rest.0,
            facts_of-own net past event c same ∙ ap (λ (l : List Fact). added ++ l) rest.1 ∙ sym (append_assoc added rest.0 (facts_of c (past_of net earlier))),
          ))
      | inr differ ↦ (rest.0, facts_of-other net past event c differ ∙ rest.1)
    ]

entries_grow : (net : Topology) (more earlier : List Event) (c : ℕ) → IsBeginning (entries_on net c earlier) (entries_on net c (more ++ earlier))
entries_grow net [] earlier c = begins_itself (entries_on net c earlier)
entries_grow net (event ∷ more) earlier c =
    let rest = entries_grow net more earlier c in
    let added = entry_at (conn_of event) c (entry_made net (more ++ earlier) event) in
    (rest.0 ++ added, ap (λ (l : List SourceEntry). l ++ added) rest.1 ∙ append_assoc (entries_on net c earlier) rest.0 added)

-- what some fact says stays said
pub any_grows : (net : Topology) (more earlier : List Event) (c : ℕ) (test : Fact → Bool) → list_any test (facts_of c (past_of net earlier)) ≡ true → list_any test (facts_of c (past_of net (more ++ earlier))) ≡ true
any_grows net more earlier c test h =
    let grown = facts_grow net more earlier c in
    ap (list_any test) grown.1 ∙ any_rest test grown.0 (facts_of c (past_of net earlier)) h

request_stays : (net : Topology) (more earlier : List Event) (c seq hop : ℕ) → request_is_at (facts_of c (past_of net earlier)) seq hop ≡ true → request_is_at (facts_of c (past_of net (more ++ earlier))) seq hop ≡ true
request_stays net more earlier c seq hop h = elim (cases_Bool (hop == 1)) [
  | inl one ↦ cond-true _ _ _ one ∙ any_grows net more earlier c (is_ask_of seq) (sym (cond-true _ _ _ one) ∙ h)
  | inr later ↦ cond-false _ _ _ later ∙ any_grows net more earlier c (is_sending (Passed seq (hop - 1))) (sym (cond-false _ _ _ later) ∙ h)
]

pub terms_stay : (net : Topology) (more earlier : List Event) (c seq : ℕ) (conn : Conn) → conn_at net c ≡ Some conn → All AsksRate (more ++ earlier) → was_asked (facts_of c (past_of net earlier)) seq ≡ true →
    request_of conn.vc (facts_of c (past_of net (more ++ earlier))) seq ≡ request_of conn.vc (facts_of c (past_of net earlier)) seq
terms_stay net more earlier c seq conn known rates asked =
    let all = more ++ earlier in
    let facts = facts_of c (past_of net earlier) in
    let others = facts_of c (past_of net all) in
    let terms = terms_below net c seq conn earlier all (lawful_at net (past_of net all) (past_lawful net all rates) c conn known) (entries_grow net more earlier c) asked in
    ap (λ (n : ℕ). (let made : Terms = record { vc = conn.vc; seq = seq; floor = n; ask = ask_of others seq } in made)) terms.0
    ∙ ap (λ (n : ℕ). (let made : Terms = record { vc = conn.vc; seq = seq; floor = floor_of facts seq; ask = n } in made)) terms.1

yes_stays : (net : Topology) (more earlier : List Event) (c seq hop hops : ℕ) (granted : Bool) → answer_is_at hops (facts_of c (past_of net earlier)) seq hop granted ≡ true →
    answer_is_at hops (facts_of c (past_of net (more ++ earlier))) seq hop granted ≡ true
yes_stays net more earlier c seq hop hops true h = elim (cases_Bool (hop == hops)) [
  | inl last ↦ cond-true _ _ _ last ∙ any_grows net more earlier c (is_sending (FactTurned seq)) (sym (cond-true _ _ _ last) ∙ h)
  | inr other ↦ cond-false _ _ _ other ∙ any_grows net more earlier c (is_sending (Back seq (hop + 1))) (sym (cond-false _ _ _ other) ∙ h)
]
yes_stays net more earlier c seq hop hops false h =
    let both = and_both (nat_lt hop hops) (was_shut (facts_of c (past_of net earlier)) seq (hop + 1)) h in
    and_from _ _ both.0 (any_grows net more earlier c (is_sending (Shut seq (hop + 1))) both.1)

way_stays : (net : Topology) (more earlier : List Event) (c hop seq : ℕ) (granted : Bool) (conn : Conn) → IsOnItsWay conn (past_of net earlier) c hop seq granted → IsOnItsWay conn (past_of net (more ++ earlier)) c hop seq granted
way_stays net more earlier c hop seq granted conn (inl sent) = inl (yes_stays net more earlier c seq hop (length conn.path) granted sent)
way_stays net more earlier c hop seq granted conn (inr passed) = inr (passed.0, passed.1, any_grows net more earlier c (is_sending (Passed seq (length conn.path))) passed.2)

pub message_stays : (net : Topology) (more earlier : List Event) (port : ℕ) (message : Rm) → All AsksRate (more ++ earlier) → Lies net (past_of net earlier) port message → Lies net (past_of net (more ++ earlier)) port message
message_stays net more earlier port (rm.Request request) rates lies = record {
  c = lies.c;
  conn = lies.conn;
  hop = lies.hop;
  seq = lies.seq;
  stop = lies.stop;
  later = lies.later;
  asked = any_grows net more earlier lies.c (is_ask_of lies.seq) lies.asked;
  sent = request_stays net more earlier lies.c lies.seq lies.hop lies.sent;
  is = lies.is ∙ sym (terms_stay net more earlier lies.c lies.seq lies.conn lies.stop.known rates lies.asked);
}
message_stays net more earlier port (rm.Answer answer) rates lies = record {
  c = lies.c;
  conn = lies.conn;
  hop = lies.hop;
  seq = lies.seq;
  granted = lies.granted;
  stop = lies.stop;
  asked = any_grows net more earlier lies.c (is_ask_of lies.seq) lies.asked;
  sent = way_stays net more earlier lies.c lies.hop lies.seq lies.granted lies.conn lies.sent;
  is = lies.is ∙ ap (λ (t : Terms). answer_to t lies.granted) (sym (terms_stay net more earlier lies.c lies.seq lies.conn lies.stop.known rates lies.asked));
}
