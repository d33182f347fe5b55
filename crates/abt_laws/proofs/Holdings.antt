-- What a hop holds after each event.
use Rattle.std.proofs.Common.{◌≡◌, ◌≢◌, ℕ, ◌≤◌, inl, inr, refl, ap, true, false, List, [], ◌∷◌, ◌++◌, length, ◌∙◌, sym, subst, arith}
use Rattle.std.specs.Prelude.{not, Some}
use Rattle.std.proofs.lemmas.Bool.{false≢true, ne_eqb, cond-false, cond_both, not-false}
use Rattle.abt_cell.specs.Channel.{Channel}
use Rattle.abt_cell.specs.Message.{Reply}
use Rattle.abt_node.specs.declared.reply.Onward.{Onward}
use Rattle.abt_node.specs.declared.reply.Onward.TheVariants.{Pass, Refuse}
use Rattle.abt_node.specs.declared.reply.Back.TheVariants.{Pass as PassBack}
use Rattle.abt_net.specs.declared.conn.Conn.{Conn}
use Rattle.abt_net.specs.Topology.{Topology, conn_at}
use Rattle.abt_facts.specs.declared.fact.Fact.{Fact}
use Rattle.abt_facts.specs.declared.fact.Fact.TheVariants.{Passed, Shut}
use Rattle.abt_facts.specs.Requests.{was_asked, floor_of, ask_of}
use Rattle.abt_facts.specs.Sent.{was_shut, request_is_at, answer_is_at}
use Rattle.abt_facts.specs.Hop.{newest_of, reserved_for, held_of}
use Rattle.abt_model.specs.declared.event.Event.TheVariants.{Request, Answer}
use Rattle.abt_model.specs.declared.outcome.Outcome.{Outcome}
use Rattle.abt_model.specs.declared.outcome.Outcome.TheVariants.{Requested, Answered}
use Rattle.abt_model.specs.Past.{Past, facts_of}
use Rattle.abt_model.specs.Reserved.{reserved_on, capacity_of}
use Rattle.abt_model.specs.Answers.{is_hop, answer_by}
use Rattle.abt_model.specs.Outcomes.{port_of, outcome_of, delivery, facts_added, after_event}
use Rattle.abt_model.specs.Run.{facts_after}
use Rattle.abt_model.specs.Promises.{EveryPast}
use Rattle.abt_model.proofs.Answered.{past_cases}
use Rattle.abt_model.proofs.Cases.{passed_newest, shut_newest}
use Rattle.abt_model.proofs.Chain.{at_asked, passed_asked, shut_at, asked_last, newest_asked}
use Rattle.abt_model.proofs.Decisions.{decided, decided_back, decided_pass, decided_refuse, decided_back_pass}
use Rattle.abt_model.proofs.Holds.{reserved_open, passed_above, passed_again, shut_now}
use Rattle.abt_model.proofs.Drops.{answer_passed}
use Rattle.abt_model.proofs.Lawful.{Route, route_of, IsLawful}
use Rattle.abt_model.proofs.Steps.{is_hop_tells, request_at_tells}
use Rattle.abt_model.proofs.Sums.{facts_after_lawful}
use Rattle.abt_model.proofs.Worlds.{cases_option, facts_of-own, outcome_of-known, outcome_of-unknown, AllLawful, lawful_at}
use Rattle.abt_laws.proofs.Passing.{over_delivery}
use Rattle.abt_laws.specs.Holds.{WasDecided, IsAboveAll, held_for, NothingOlderIsHeld, RequestsSetHolds, NoesLeaveFloors}

-- what was decided was asked
decided_asked : (k : Route) (fs : List Fact) → IsLawful k fs → (s j : ℕ) → WasDecided fs s j → was_asked fs s ≡ true
decided_asked k fs lawful s j was = elim was [
  | inl p ↦ passed_asked k fs lawful s j p
  | inr h ↦ at_asked k fs lawful s j (shut_at k fs lawful s j h).0
]

decided_newest : (fs : List Fact) (s j : ℕ) → WasDecided fs s j → s ≤ newest_of fs j
decided_newest fs s j was = elim was [ inl p ↦ passed_newest s j fs p | inr h ↦ shut_newest s j fs h ]

newest_is : (k : Route) (fs : List Fact) → IsLawful k fs → (s j : ℕ) → IsAboveAll fs s → WasDecided fs s j → newest_of fs j ≡ s
newest_is k fs lawful s j above was =
    let low = decided_newest fs s j was in
    elim (newest_asked k fs lawful j) [
      | inl z ↦ omega arith
      | inr a ↦ (let high = above (newest_of fs j) a in omega arith)
    ]

nothing_older : (k : Route) (fs : List Fact) → IsLawful k fs → (s j : ℕ) → IsAboveAll fs s → WasDecided fs s j → held_of fs j ≡ held_for fs s j
nothing_older k fs lawful s j above was =
    let number = (asked_last k fs lawful).1 s (decided_asked k fs lawful s j was) in
    let some : s ≢ 0 = λ z. omega arith in
    ap (reserved_for fs j) (newest_is k fs lawful s j above was) ∙ cond-false _ _ _ (ne_eqb s 0 some)

none_decided : (s j : ℕ) → WasDecided [] s j → ⊥
none_decided s j was = elim was [ inl p ↦ false≢true p | inr h ↦ false≢true h ]

pub every_nothing_older : EveryPast NothingOlderIsHeld
every_nothing_older net events rules rates c s j =
    past_cases net (facts_after net events) (facts_after_lawful net events rates).0 c (λ (fs : List Fact). IsAboveAll fs s → WasDecided fs s j → held_of fs j ≡ held_for fs s j)
    (λ above was. absurd (none_decided s j was)) (λ conn law above was. nothing_older (route_of conn) (facts_of c (facts_after net events)) law s j above was)

-- a request that was decided: its connection is in the net, it was asked, and this is the decision
record IsDecidedAt (net : Topology) (past : Past) (c s j : ℕ) (d : Onward) : Type 0 where
  conn : Conn
  known : conn_at net c ≡ Some conn
  asked : was_asked (facts_of c past) s ≡ true
  reserved : ℕ
  capacity : ℕ
  is : decided conn.vc (facts_of c past) reserved capacity j s ≡ d

request_decided : (net : Topology) (past : Past) → AllLawful net past → (c s j : ℕ) (d : Onward) → outcome_of net past (Request c j s) ≡ Requested d → IsDecidedAt net past c s j d
request_decided net past lawful c s j d answered = elim (cases_option (conn_at net c)) [
  | inl unknown ↦ (let no = sym (outcome_of-unknown net past (Request c j s) c refl unknown) ∙ answered in absurd (cc))
  | inr known ↦ (
      let conn = known.0 in
      let fs = facts_of c past in
      let e = Request c j s in
      let reserved = reserved_on net past (port_of conn.path e) in
      let capacity = capacity_of net past (port_of conn.path e) in
      let is : answer_by conn reserved capacity fs e ≡ Requested d = sym (outcome_of-known net past e c conn refl known.1) ∙ answered in
      (cond_both (not (is_hop (length conn.path) j)) _ _ (λ (o : Outcome). o ≡ Requested d → IsDecidedAt net past c s j d)
      (λ e1 no. absurd (cc))
      (λ e1. (
      let hop = is_hop_tells (length conn.path) j (not-false _ e1) in
      cond_both (not (request_is_at fs s j)) _ _ (λ (o : Outcome). o ≡ Requested d → IsDecidedAt net past c s j d)
      (λ e2 no. absurd (cc))
      (λ e2 yes. record {
        conn = conn;
        known = known.1;
        asked = at_asked (route_of conn) fs (lawful_at net past lawful c conn known.1) s j (request_at_tells fs s j hop.0 (not-false _ e2));
        reserved = reserved;
        capacity = capacity;
        is = cc;
      })))) is)
]

passed_holds : (k : Route) (vc : Channel) (fs : List Fact) → IsLawful k fs → (reserved capacity j s : ℕ) → s ≢ 0 → decided vc fs reserved capacity j s ≡ Pass →
    held_of (Passed s j ∷ (delivery j s ++ fs)) j ≡ ask_of fs s
passed_holds k vc fs lawful reserved capacity j s some is =
    over_delivery (λ (l : List Fact). held_of (Passed s j ∷ l) j) j s fs refl
    ∙ elim (decided_pass k vc fs lawful reserved capacity j s is) [
      | inl above ↦ passed_above fs s j above.0
      | inr equal ↦ (
          let unshut : was_shut fs s j ≡ false = subst (λ n. was_shut fs n j ≡ false) equal.0 equal.1 in
          passed_again fs s j equal.0 ∙ ap (reserved_for fs j) equal.0 ∙ reserved_open fs j s some unshut)
    ]

refused_holds : (k : Route) (vc : Channel) (fs : List Fact) → IsLawful k fs → (reserved capacity j s : ℕ) (answer : Reply) → s ≢ 0 → decided vc fs reserved capacity j s ≡ Refuse answer →
    held_of (Shut s j ∷ (delivery j s ++ fs)) j ≡ floor_of fs s
refused_holds k vc fs lawful reserved capacity j s answer some is =
    let low : newest_of fs j ≤ s = elim (decided_refuse k vc fs lawful reserved capacity j s answer is) [ inl above ↦ omega (arith, above.0) | inr equal ↦ omega (arith, equal.0) ] in
    over_delivery (λ (l : List Fact). held_of (Shut s j ∷ l) j) j s fs refl ∙ shut_now fs s j low some

pub every_request_sets : EveryPast RequestsSetHolds
every_request_sets net events rules rates c s j =
    let past = facts_after net events in
    let lawful = (facts_after_lawful net events rates).0 in
    let fs = facts_of c past in
    let e = Request c j s in
    let after = after_event net past e in
    record {
      passed = λ answered.
          let was = request_decided net past lawful c s j Pass answered in
          let law = lawful_at net past lawful c was.conn was.known in
          let number = (asked_last (route_of was.conn) fs law).1 s was.asked in
          let some : s ≢ 0 = λ z. omega arith in
          ap (λ (l : List Fact). held_of l j) (facts_of-own net past e c refl ∙ ap (λ (o : Outcome). facts_added fs e o ++ fs) answered)
          ∙ passed_holds (route_of was.conn) was.conn.vc fs law was.reserved was.capacity j s some was.is;
      refused = λ answer answered.
          let was = request_decided net past lawful c s j (Refuse answer) answered in
          let law = lawful_at net past lawful c was.conn was.known in
          let number = (asked_last (route_of was.conn) fs law).1 s was.asked in
          let some : s ≢ 0 = λ z. omega arith in
          ap (λ (l : List Fact). held_of l j) (facts_of-own net past e c refl ∙ ap (λ (o : Outcome). facts_added fs e o ++ fs) answered)
          ∙ refused_holds (route_of was.conn) was.conn.vc fs law was.reserved was.capacity j s answer some was.is;
    }

-- a no that a hop passed back: its number is the hop's newest, and was asked
no_passed : (net : Topology) (past : Past) → AllLawful net past → (c s j : ℕ) → outcome_of net past (Answer c j s false) ≡ Answered PassBack → (newest_of (facts_of c past) j ≡ s) × (s ≢ 0)
no_passed net past lawful c s j answered = elim (cases_option (conn_at net c)) [
  | inl unknown ↦ (let no = sym (outcome_of-unknown net past (Answer c j s false) c refl unknown) ∙ answered in absurd (cc))
  | inr known ↦ (
      let conn = known.0 in
      let fs = facts_of c past in
      let e = Answer c j s false in
      let law = lawful_at net past lawful c conn known.1 in
      let is : answer_by conn (reserved_on net past (port_of conn.path e)) (capacity_of net past (port_of conn.path e)) fs e ≡ Answered PassBack = sym (outcome_of-known net past e c conn refl known.1) ∙ answered in
      (cond_both (not (is_hop (length conn.path) j)) _ _ (λ (o : Outcome). o ≡ Answered PassBack → (newest_of fs j ≡ s) × (s ≢ 0))
      (λ e1 no. absurd (cc))
      (λ e1. (
      let hop = is_hop_tells (length conn.path) j (not-false _ e1) in
      cond_both (not (answer_is_at (length conn.path) fs s j false)) _ _ (λ (o : Outcome). o ≡ Answered PassBack → (newest_of fs j ≡ s) × (s ≢ 0))
      (λ e2 no. absurd (cc))
      (λ e2 yes. (
      let passed = answer_passed (route_of conn) fs law s j false hop (not-false _ e2) in
      let number = (asked_last (route_of conn) fs law).1 s (passed_asked (route_of conn) fs law s j passed.0) in
      let is_back : decided_back conn.vc fs j s false ≡ PassBack = cc in
      (decided_back_pass conn.vc fs j s false is_back, λ z. omega arith)))))) is)
]

pub every_no_leaves : EveryPast NoesLeaveFloors
every_no_leaves net events rules rates c s j answered =
    let past = facts_after net events in
    let fs = facts_of c past in
    let e = Answer c j s false in
    let was = no_passed net past (facts_after_lawful net events rates).0 c s j answered in
    ap (λ (l : List Fact). held_of l j) (facts_of-own net past e c refl ∙ ap (λ (o : Outcome). facts_added fs e o ++ fs) answered)
    ∙ shut_now fs s j (omega (arith, was.0)) was.1
