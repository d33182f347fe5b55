-- What follows the reply to a request or an answer lies where it was sent to.
use Rattle.std.proofs.Common.{◌≡◌, ◌≢◌, ℕ, ◌+◌, ◌-◌, ◌≤◌, inl, inr, refl, ap, Bool, true, false, List, [], ◌∷◌, ◌++◌, length, ◌∙◌, sym, subst, Some, arith}
use Rattle.std.specs.Prelude.{◌==◌, ◌&&◌, ◌||◌, not, if◌then◌else◌, slice_index, All}
use Rattle.std.proofs.lemmas.Bool.{false≢true, cond-false, cond_both, eq-eqb, ne_eqb, eqb-true, eqb-false, and_from, lt-ltb, le-leb}
use Rattle.std.proofs.lemmas.List.Elements.{All-cons}
use Rattle.abt_cell.specs.Channel.{Channel, same_channel}
use Rattle.abt_cell.proofs.ChannelLemmas.{same_channel-is}
use Rattle.abt_cell.specs.Message.{Terms, Reply, answer_to}
use Rattle.abt_cell.specs.declared.message.Rm.TheVariants as rm
use Rattle.abt_net.specs.declared.conn.Conn.{Conn}
use Rattle.abt_net.specs.Topology.{Topology, IsWithinRules, conn_at}
use Rattle.abt_node.specs.declared.reply.Onward.{Onward}
use Rattle.abt_node.specs.declared.reply.Onward.TheVariants.{Pass, Refuse, Drop}
use Rattle.abt_node.specs.declared.reply.Back.{Back}
use Rattle.abt_node.specs.declared.reply.Back.TheVariants.{Pass as PassBack, Drop as DropBack}
use Rattle.abt_facts.specs.declared.fact.Fact.{Fact}
use Rattle.abt_facts.specs.Requests.{is_ask_of, was_asked}
use Rattle.abt_facts.specs.Sent.{answer_is_at, answer_is_home, was_passed, was_shut, was_back}
use Rattle.abt_source.specs.SourceFacts.{request_of}
use Rattle.abt_model.specs.declared.event.Event.{Event}
use Rattle.abt_model.specs.declared.event.Event.TheVariants.{Request, Answer}
use Rattle.abt_model.specs.declared.outcome.Outcome.TheVariants.{Requested, Answered}
use Rattle.abt_model.specs.Answers.{is_hop}
use Rattle.abt_model.specs.Events.{AsksRate}
use Rattle.abt_model.specs.Outcomes.{outcome_of, facts_added}
use Rattle.abt_model.specs.Past.{facts_of}
use Rattle.abt_model.proofs.Steps.{is_hop_tells}
use Rattle.abt_model.proofs.Worlds.{facts_of-own}
use Rattle.abt_journal.specs.declared.next_message.Next.TheVariants.{Send, Tell, Nothing}
use Rattle.abt_journal.specs.declared.input.PortReply.TheVariants.{Requested as RequestedOut, Answered as AnsweredOut}
use Rattle.abt_journal.specs.Following.{back_from, is_no_to, sent_after}
use Rattle.abt_weave.specs.Projections.{past_of}
use Rattle.abt_weave.proofs.Candidates.{and_both}
use Rattle.abt_serving.specs.Messages.{IsStopOf}
use Rattle.abt_serving.specs.Followed.{IsLeft}
use Rattle.abt_serving.proofs.Messages.{any_grows, terms_stay}

-- an event of a connection, with what it is known to add
record Adds (net : Topology) (earlier : List Event) (event : Event) (c seq : ℕ) (conn : Conn) : Type 0 where
  rates : All AsksRate (event ∷ earlier)
  known : conn_at net c ≡ Some conn
  asked : was_asked (facts_of c (past_of net earlier)) seq ≡ true

asked_then : (net : Topology) (earlier : List Event) (event : Event) (c seq : ℕ) (conn : Conn) → Adds net earlier event c seq conn → was_asked (facts_of c (past_of net (event ∷ earlier))) seq ≡ true
asked_then net earlier event c seq conn adds = any_grows net (event ∷ []) earlier c (is_ask_of seq) adds.asked

terms_then : (net : Topology) (earlier : List Event) (event : Event) (c seq : ℕ) (conn : Conn) → Adds net earlier event c seq conn →
    request_of conn.vc (facts_of c (past_of net earlier)) seq ≡ request_of conn.vc (facts_of c (past_of net (event ∷ earlier))) seq
terms_then net earlier event c seq conn adds = sym (terms_stay net (event ∷ []) earlier c seq conn adds.known adds.rates adds.asked)

-- the hop of a stop
within_of : (net : Topology) (c : ℕ) (conn : Conn) (hop port : ℕ) → IsStopOf net c conn hop port → (1 ≤ hop) × (hop ≤ length conn.path)
within_of net c conn hop port stop = is_hop_tells (length conn.path) hop stop.within

is_hop_from : (hops hop : ℕ) → 1 ≤ hop → hop ≤ hops → is_hop hops hop ≡ true
is_hop_from hops hop low high = and_from _ _ (le-leb 1 hop low) (le-leb hop hops high)

-- an answer goes back
abbrev IsSentBack : (facts : List Fact) → (hop seq : ℕ) → Bool → Type 0
IsSentBack facts hop seq granted = (if granted then was_back facts seq hop else was_shut facts seq hop) ≡ true

home_back : (facts : List Fact) (seq : ℕ) (granted : Bool) (hop : ℕ) → hop ≡ 1 → IsSentBack facts hop seq granted → answer_is_home facts seq granted ≡ true
home_back facts seq granted hop one sent = subst (λ (n : ℕ). (if granted then was_back facts seq n else was_shut facts seq n) ≡ true) one sent

at_before : (facts : List Fact) (hops seq : ℕ) (granted : Bool) (hop : ℕ) → 2 ≤ hop → hop ≤ hops → IsSentBack facts hop seq granted → answer_is_at hops facts seq (hop - 1) granted ≡ true
at_before facts hops seq true hop low high sent =
    let back : (hop - 1) + 1 ≡ hop = omega (arith, low) in
    cond-false _ _ _ (ne_eqb (hop - 1) hops (λ e. omega (arith, e, low, high))) ∙ ap (λ (n : ℕ). was_back facts seq n) back ∙ sent
at_before facts hops seq false hop low high sent =
    let back : (hop - 1) + 1 ≡ hop = omega (arith, low) in
    and_from _ _ (lt-ltb (hop - 1) hops (omega (arith, low, high))) (ap (λ (n : ℕ). was_shut facts seq n) back ∙ sent)

goes_back : (net : Topology) (earlier : List Event) (event : Event) (c seq : ℕ) (conn : Conn) → Adds net earlier event c seq conn → (hop port : ℕ) (granted : Bool) (answer : Reply) → IsStopOf net c conn hop port →
    answer ≡ answer_to (request_of conn.vc (facts_of c (past_of net earlier)) seq) granted → IsSentBack (facts_of c (past_of net (event ∷ earlier))) hop seq granted →
    IsLeft net (past_of net (event ∷ earlier)) (back_from conn.path c hop answer)
goes_back net earlier event c seq conn adds hop port granted answer stop is sent =
    let past = past_of net (event ∷ earlier) in
    let within = within_of net c conn hop port stop in
    let its = is ∙ ap (λ (t : Terms). answer_to t granted) (terms_then net earlier event c seq conn adds) in
    cond_both (hop == 1) (Tell c answer) (Send (slice_index conn.path (hop - 2)) (rm.Answer answer)) (IsLeft net past)
    (λ e. record {
      conn = conn;
      seq = seq;
      granted = granted;
      known = adds.known;
      asked = asked_then net earlier event c seq conn adds;
      sent = home_back (facts_of c past) seq granted hop (eqb-true hop 1 e) sent;
      is = its;
    })
    (λ e. (
    let later : hop ≢ 1 = eqb-false hop 1 e in
    let low : 2 ≤ hop = omega (arith, within.0, later) in
    let place : (hop - 1) - 1 ≡ hop - 2 = omega (arith, low) in
    record {
      c = c;
      conn = conn;
      hop = hop - 1;
      seq = seq;
      granted = granted;
      stop = record { known = adds.known; within = is_hop_from (length conn.path) (hop - 1) (omega (arith, low)) (omega (arith, within.1)); port_is = ap (slice_index conn.path) place };
      asked = asked_then net earlier event c seq conn adds;
      sent = inl (at_before (facts_of c past) (length conn.path) seq granted hop low within.1 sent);
      is = its;
    }))

-- a no to a request
no_tells : (request : Terms) (answer : Reply) → is_no_to request answer ≡ true → answer ≡ answer_to request false
no_tells request answer h =
    let one = and_both _ (answer.terms.ask == request.ask) h in
    let two = and_both _ (answer.terms.floor == request.floor) one.0 in
    let three = and_both _ (answer.terms.seq == request.seq) two.0 in
    let four = and_both (not answer.granted) (same_channel answer.terms.vc request.vc) three.0 in
    made answer.granted answer.terms.vc request.vc answer.terms.seq request.seq answer.terms.floor request.floor answer.terms.ask request.ask
    four.0 (same_channel-is answer.terms.vc request.vc four.1) (eqb-true _ _ three.1) (eqb-true _ _ two.1) (eqb-true _ _ one.1)
  where
    made : (granted : Bool) (vc other : Channel) (seq number floor least ask most : ℕ) → not granted ≡ true → vc ≡ other → seq ≡ number → floor ≡ least → ask ≡ most →
        (let a : Reply = record { terms = record { vc = vc; seq = seq; floor = floor; ask = ask }; granted = granted } in a) ≡ answer_to (record { vc = other; seq = number; floor = least; ask = most }) false
    made true vc other seq number floor least ask most nay a b d e = absurd (false≢true nay)
    made false vc other seq number floor least ask most nay a b d e =
        ap (λ (x : Channel). (let r : Reply = record { terms = record { vc = x; seq = seq; floor = floor; ask = ask }; granted = false } in r)) a
        ∙ ap (λ (x : ℕ). (let r : Reply = record { terms = record { vc = other; seq = x; floor = floor; ask = ask }; granted = false } in r)) b
        ∙ ap (λ (x : ℕ). (let r : Reply = record { terms = record { vc = other; seq = number; floor = x; ask = ask }; granted = false } in r)) d
        ∙ ap (λ (x : ℕ). (let r : Reply = record { terms = record { vc = other; seq = number; floor = least; ask = x }; granted = false } in r)) e

here_sent : (s j : ℕ) → (s == s && j == j) ≡ true
here_sent s j = and_from _ _ (eq-eqb s s refl) (eq-eqb j j refl)

-- what is said first is said
first_said : (a b : Bool) → a ≡ true → (a || b) ≡ true
first_said a b h = ap (λ x. x || b) h

request_onward : (net : Topology) (earlier : List Event) → (c hop seq port : ℕ) (conn : Conn) (onward : Onward) → IsStopOf net c conn hop port → (adds : Adds net earlier (Request c hop seq) c seq conn) →
    outcome_of net (past_of net earlier) (Request c hop seq) ≡ Requested onward →
    IsLeft net (past_of net (Request c hop seq ∷ earlier)) (sent_after conn.path c hop (rm.Request (request_of conn.vc (facts_of c (past_of net earlier)) seq)) (RequestedOut onward))
request_onward net earlier c hop seq port conn Pass stop adds says =
    let event = Request c hop seq in
    let before = past_of net earlier in
    let past = past_of net (event ∷ earlier) in
    let terms = request_of conn.vc (facts_of c before) seq in
    let within = within_of net c conn hop port stop in
    let now : facts_of c past ≡ facts_added (facts_of c before) event (Requested Pass) ++ facts_of c before = facts_of-own net before event c refl ∙ ap (λ o. facts_added (facts_of c before) event o ++ facts_of c before) says in
    let passed : was_passed (facts_of c past) seq hop ≡ true = ap (λ l. was_passed l seq hop) now ∙ first_said _ _ (here_sent seq hop) in
    cond_both (hop == length conn.path) (Send (slice_index conn.path (hop - 1)) (rm.Answer (answer_to terms true))) (Send (slice_index conn.path hop) (rm.Request terms)) (IsLeft net past)
    (λ e. (
    let last : hop ≡ length conn.path = eqb-true hop (length conn.path) e in
    record {
      c = c;
      conn = conn;
      hop = hop;
      seq = seq;
      granted = true;
      stop = record { known = stop.known; within = stop.within; port_is = refl };
      asked = asked_then net earlier event c seq conn adds;
      sent = inr (last, refl, subst (λ (n : ℕ). was_passed (facts_of c past) seq n ≡ true) last passed);
      is = ap (λ (t : Terms). answer_to t true) (terms_then net earlier event c seq conn adds);
    }))
    (λ e. (
    let other : hop ≢ length conn.path = eqb-false hop (length conn.path) e in
    let one : (hop + 1) - 1 ≡ hop = omega arith in
    record {
      c = c;
      conn = conn;
      hop = hop + 1;
      seq = seq;
      stop = record { known = stop.known; within = is_hop_from (length conn.path) (hop + 1) (omega arith) (omega (arith, within.1, other)); port_is = ap (slice_index conn.path) one };
      later = omega (arith, within.0);
      asked = asked_then net earlier event c seq conn adds;
      sent = cond-false _ _ _ (ne_eqb (hop + 1) 1 (λ same. omega (arith, same, within.0))) ∙ ap (λ (n : ℕ). was_passed (facts_of c past) seq n) one ∙ passed;
      is = terms_then net earlier event c seq conn adds;
    }))
request_onward net earlier c hop seq port conn (Refuse answer) stop adds says =
    let event = Request c hop seq in
    let before = past_of net earlier in
    let past = past_of net (event ∷ earlier) in
    let terms = request_of conn.vc (facts_of c before) seq in
    let now : facts_of c past ≡ facts_added (facts_of c before) event (Requested (Refuse answer)) ++ facts_of c before = facts_of-own net before event c refl ∙ ap (λ o. facts_added (facts_of c before) event o ++ facts_of c before) says in
    let shut : was_shut (facts_of c past) seq hop ≡ true = ap (λ l. was_shut l seq hop) now ∙ first_said _ _ (here_sent seq hop) in
    cond_both (is_no_to terms answer) (back_from conn.path c hop answer) Nothing (IsLeft net past)
    (λ e. goes_back net earlier event c seq conn adds hop port false answer stop (no_tells terms answer e) shut)
    (λ e. tt)
request_onward net earlier c hop seq port conn (Drop cause) stop adds says = tt

pub request_leads : (net : Topology) (earlier : List Event) → IsWithinRules net → All AsksRate earlier → (c hop seq port : ℕ) (conn : Conn) (onward : Onward) → IsStopOf net c conn hop port →
    was_asked (facts_of c (past_of net earlier)) seq ≡ true → outcome_of net (past_of net earlier) (Request c hop seq) ≡ Requested onward →
    IsLeft net (past_of net (Request c hop seq ∷ earlier)) (sent_after conn.path c hop (rm.Request (request_of conn.vc (facts_of c (past_of net earlier)) seq)) (RequestedOut onward))
request_leads net earlier rules rates c hop seq port conn onward stop asked says =
    let event = Request c hop seq in
    request_onward net earlier c hop seq port conn onward stop (record { rates = All-cons AsksRate event earlier tt rates; known = stop.known; asked = asked }) says

answer_onward : (net : Topology) (earlier : List Event) → (c hop seq port : ℕ) (granted : Bool) (conn : Conn) → IsStopOf net c conn hop port → Adds net earlier (Answer c hop seq granted) c seq conn →
    outcome_of net (past_of net earlier) (Answer c hop seq granted) ≡ Answered PassBack →
    IsLeft net (past_of net (Answer c hop seq granted ∷ earlier)) (back_from conn.path c hop (answer_to (request_of conn.vc (facts_of c (past_of net earlier)) seq) granted))
answer_onward net earlier c hop seq port granted conn stop adds says =
    let event = Answer c hop seq granted in
    let before = past_of net earlier in
    let past = past_of net (event ∷ earlier) in
    let now : facts_of c past ≡ facts_added (facts_of c before) event (Answered PassBack) ++ facts_of c before = facts_of-own net before event c refl ∙ ap (λ o. facts_added (facts_of c before) event o ++ facts_of c before) says in
    goes_back net earlier event c seq conn adds hop port granted (answer_to (request_of conn.vc (facts_of c before) seq) granted) stop refl
    (ap (λ l. (if granted then was_back l seq hop else was_shut l seq hop)) now ∙ sent_now granted)
  where
    sent_now : (g : Bool) → (if g then was_back (facts_added (facts_of c (past_of net earlier)) (Answer c hop seq g) (Answered PassBack) ++ facts_of c (past_of net earlier)) seq hop
        else was_shut (facts_added (facts_of c (past_of net earlier)) (Answer c hop seq g) (Answered PassBack) ++ facts_of c (past_of net earlier)) seq hop) ≡ true
    sent_now true = first_said _ _ (here_sent seq hop)
    sent_now false = first_said _ _ (here_sent seq hop)

pub answer_leads : (net : Topology) (earlier : List Event) → All AsksRate earlier → (c hop seq port : ℕ) (granted : Bool) (conn : Conn) (back : Back) → IsStopOf net c conn hop port →
    was_asked (facts_of c (past_of net earlier)) seq ≡ true → outcome_of net (past_of net earlier) (Answer c hop seq granted) ≡ Answered back →
    IsLeft net (past_of net (Answer c hop seq granted ∷ earlier)) (sent_after conn.path c hop (rm.Answer (answer_to (request_of conn.vc (facts_of c (past_of net earlier)) seq) granted)) (AnsweredOut back))
answer_leads net earlier rates c hop seq port granted conn PassBack stop asked says =
    let event = Answer c hop seq granted in
    answer_onward net earlier c hop seq port granted conn stop (record { rates = All-cons AsksRate event earlier tt rates; known = stop.known; asked = asked }) says
answer_leads net earlier rates c hop seq port granted conn (DropBack cause) stop asked says = tt
