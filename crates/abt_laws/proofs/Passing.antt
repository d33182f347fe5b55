-- A request that fits passes each hop in turn.
use Rattle.std.proofs.Common.{◌≡◌, ℕ, zero, suc, ◌+◌, ◌-◌, ◌≤◌, ◌<◌, inl, inr, refl, ap, true, false, List, [], ◌∷◌, ◌++◌, length, ◌∙◌, sym, subst, arith}
use Rattle.std.specs.Prelude.{◌==◌, not, replicate, Some}
use Rattle.std.proofs.lemmas.Bool.{false≢true, eq-eqb, ne_eqb, cond-false, cond_both, or_left, and_from}
use Rattle.std.proofs.lemmas.Bool.Decides.{nat_tests}
use Rattle.std.proofs.lemmas.List.{replicate_more}
use Rattle.abt_cell.specs.Message.{Terms}
use Rattle.abt_node.specs.declared.reply.DropCause.TheVariants.{UnknownVc, Stale, Conflict, FloorAbove}
use Rattle.abt_node.specs.declared.reply.Onward.{Onward}
use Rattle.abt_node.specs.declared.reply.Onward.TheVariants.{Pass, Refuse, Drop}
use Rattle.abt_node.specs.Reservation.{Reservation}
use Rattle.abt_node.specs.Rule.{IsDecision}
use Rattle.abt_node.proofs.RuleLemmas.{decision_of-IsDecision}
use Rattle.abt_net.specs.declared.conn.Conn.{Conn}
use Rattle.abt_net.specs.Topology.{Topology, IsWithinRules, conn_at}
use Rattle.abt_facts.specs.declared.fact.Fact.{Fact}
use Rattle.abt_facts.specs.declared.fact.Fact.TheVariants.{Delivered, Passed}
use Rattle.abt_facts.specs.Requests.{ask_of}
use Rattle.abt_facts.specs.Source.{Asking, state_of}
use Rattle.abt_facts.specs.Sent.{was_passed, request_is_at}
use Rattle.abt_facts.specs.Hop.{newest_of, held_of}
use Rattle.abt_source.specs.SourceFacts.{request_of}
use Rattle.abt_model.specs.declared.event.Event.{Event}
use Rattle.abt_model.specs.declared.event.Event.TheVariants.{Request}
use Rattle.abt_model.specs.declared.outcome.Outcome.{Outcome}
use Rattle.abt_model.specs.declared.outcome.Outcome.TheVariants.{Requested}
use Rattle.abt_model.specs.Past.{Past, facts_of}
use Rattle.abt_model.specs.Reserved.{held_on, reserved_on, capacity_of}
use Rattle.abt_model.specs.Decision.{reservation_at}
use Rattle.abt_model.specs.Answers.{is_hop}
use Rattle.abt_model.specs.Outcomes.{conn_of, outcome_of, delivery, facts_added, after_event}
use Rattle.abt_model.specs.Run.{facts_from, outcomes_from}
use Rattle.abt_model.specs.Promises.{disputes}
use Rattle.abt_model.proofs.Capacities.{capacity_of-own}
use Rattle.abt_model.proofs.Decisions.{decided}
use Rattle.abt_model.proofs.Drops.{outcome_agrees}
use Rattle.abt_model.proofs.Holds.{passed_other}
use Rattle.abt_model.proofs.Runs.{facts_from_push, outcomes_from_push}
use Rattle.abt_model.proofs.Sums.{AllWithin, holding, numbered_change, after_event_within}
use Rattle.abt_model.proofs.Worlds.{other_conn, facts_of-own, facts_of-other, outcome_of-known, AllLawful, after_event_lawful}
use Rattle.abt_laws.specs.Granting.{FitsAt}
use Rattle.abt_laws.specs.RoundTrips.{out_over}
use Rattle.abt_laws.proofs.Places.{port_at, held_there}

-- what fits goes on to fit after an event of its connection that leaves what the hop holds
pub fits_stays : (net : Topology) → IsWithinRules net → (past : Past) (c : ℕ) (conn : Conn) → conn_at net c ≡ Some conn → (rate hop : ℕ) → 1 ≤ hop → hop ≤ length conn.path →
    (e : Event) → conn_of e ≡ Some c → held_of (facts_of c (after_event net past e)) hop ≡ held_of (facts_of c past) hop →
    FitsAt net past c conn rate hop → FitsAt net (after_event net past e) c conn rate hop
fits_stays net rules past c conn known rate hop low high e own same fits =
    let after = after_event net past e in
    let p = port_at conn.path hop in
    let moved = numbered_change (holding past p) (holding after p) c 0 c net.conns conn (omega arith) known
    (λ d other differ. ap (λ (l : List Fact). held_on l other.path p) (facts_of-other net past e d (λ whose. other_conn c d differ (sym own ∙ whose)))) in
    let before = held_there net rules past c conn known hop low high in
    let behind = held_there net rules after c conn known hop low high in
    let reserved : reserved_on net after p ≡ reserved_on net past p = omega (arith, moved, before, behind, same) in
    let capacity = capacity_of-own net past e p c own in
    omega (arith, fits, reserved, capacity, same)

-- the rule passes a newer request that fits, unless the two sides disagree
rule_passes : (capacity others : ℕ) (r : Reservation) (q : Terms) (d : Onward) → IsDecision capacity others r q d → disputes (Requested d) ≡ false → r.newest < q.seq → others + q.ask ≤ capacity → d ≡ Pass
rule_passes capacity others r q Pass is agrees newer fits = refl
rule_passes capacity others r q (Refuse answer) is agrees newer fits = elim is.1 [
  | inl again ↦ absurd (let same = again.0.number in omega arith)
  | inr over ↦ absurd (omega (arith, over.1))
]
rule_passes capacity others r q (Drop UnknownVc) is agrees newer fits = absurd is
rule_passes capacity others r q (Drop Stale) is agrees newer fits = absurd (omega arith)
rule_passes capacity others r q (Drop Conflict) is agrees newer fits = absurd (false≢true (sym agrees))
rule_passes capacity others r q (Drop FloorAbove) is agrees newer fits = absurd (false≢true (sym agrees))

-- The request s for a rate has passed the first i hops: it lies at the next, no later hop decided it yet, and it fits at each of these.
pub record HasPassed (net : Topology) (past : Past) (c : ℕ) (conn : Conn) (s rate i : ℕ) : Type 0 where
  pub lawful : AllLawful net past
  pub within : AllWithin net past
  pub waits : state_of (facts_of c past) ≡ Asking s
  pub asks : ask_of (facts_of c past) s ≡ rate
  pub lies : request_is_at (facts_of c past) s (i + 1) ≡ true
  pub newer : (j : ℕ) → i < j → newest_of (facts_of c past) j < s
  pub fits : (j : ℕ) → i < j → j ≤ length conn.path → FitsAt net past c conn rate j

hop_tells : (k j : ℕ) → 1 ≤ j → j ≤ k → is_hop k j ≡ true
hop_tells k j low high = grind (arith, nat_tests)

pub hop_is : (k j : ℕ) → 1 ≤ j → j ≤ k → not (is_hop k j) ≡ false
hop_is k j low high = ap not (hop_tells k j low high)

passes_next : (net : Topology) → IsWithinRules net → (past : Past) (c : ℕ) (conn : Conn) → conn_at net c ≡ Some conn → (s rate i : ℕ) → i < length conn.path →
    HasPassed net past c conn s rate i → outcome_of net past (Request c (i + 1) s) ≡ Requested Pass
passes_next net rules past c conn known s rate i room sent =
    let fs = facts_of c past in
    let j = i + 1 in
    let e = Request c j s in
    let p = port_at conn.path j in
    let reserved = reserved_on net past p in
    let capacity = capacity_of net past p in
    let d = decided conn.vc fs reserved capacity j s in
    let is : outcome_of net past e ≡ Requested d = outcome_of-known net past e c conn refl known
    ∙ cond-false _ _ _ (hop_is (length conn.path) j (omega arith) (omega arith)) ∙ cond-false _ _ _ (ap not sent.lies) in
    let agrees : disputes (Requested d) ≡ false = sym (ap disputes is) ∙ outcome_agrees net past sent.lawful e in
    let fits = sent.fits j (omega arith) (omega arith) in
    let newer = sent.newer j (omega arith) in
    let asks = sent.asks in
    is ∙ ap Requested (rule_passes capacity (reserved - held_of fs j) (reservation_at fs j) (request_of conn.vc fs s) d
    (decision_of-IsDecision capacity (reserved - held_of fs j) (reservation_at fs j) (request_of conn.vc fs s)) agrees newer (omega arith))

-- what facts say whether or not the request was delivered
pub over_delivery : {A : Type 0} → (g : List Fact → A) (j s : ℕ) (fs : List Fact) → g (Delivered s ∷ fs) ≡ g fs → g (delivery j s ++ fs) ≡ g fs
over_delivery g j s fs same = cond_both (j == 1) (Delivered s ∷ []) [] (λ (l : List Fact). g (l ++ fs) ≡ g fs) (λ e. same) (λ e. refl)

passed_there : (s j : ℕ) (fs : List Fact) → was_passed (Passed s j ∷ fs) s j ≡ true
passed_there s j fs = or_left _ _ (and_from _ _ (eq-eqb s s refl) (eq-eqb j j refl))

has_passed_next : (net : Topology) → IsWithinRules net → (past : Past) (c : ℕ) (conn : Conn) → conn_at net c ≡ Some conn → (s rate i : ℕ) → i < length conn.path →
    HasPassed net past c conn s rate i → HasPassed net (after_event net past (Request c (i + 1) s)) c conn s rate (i + 1)
has_passed_next net rules past c conn known s rate i room sent =
    let fs = facts_of c past in
    let j = i + 1 in
    let e = Request c j s in
    let after = after_event net past e in
    let rest = delivery j s ++ fs in
    let is : facts_of c after ≡ Passed s j ∷ rest = facts_of-own net past e c refl ∙ ap (λ (o : Outcome). facts_added fs e o ++ fs) (passes_next net rules past c conn known s rate i room sent) in
    let other : (i2 : ℕ) → j < i2 → held_of (facts_of c after) i2 ≡ held_of fs i2 = λ i2 above.
    ap (λ (l : List Fact). held_of l i2) is ∙ passed_other rest s j i2 (λ same. omega arith) ∙ over_delivery (λ (l : List Fact). held_of l i2) j s fs refl in
    record {
      lawful = after_event_lawful net past sent.lawful e tt;
      within = after_event_within net past sent.lawful sent.within e;
      waits = ap state_of is ∙ over_delivery state_of j s fs refl ∙ sent.waits;
      asks = ap (λ (l : List Fact). ask_of l s) is ∙ over_delivery (λ (l : List Fact). ask_of l s) j s fs refl ∙ sent.asks;
      lies = ap (λ (l : List Fact). request_is_at l s (j + 1)) is ∙ cond-false _ _ _ (ne_eqb (j + 1) 1 (λ one. omega arith))
          ∙ ap (λ (h : ℕ). was_passed (Passed s j ∷ rest) s h) (plus_one j) ∙ passed_there s j rest;
      newer = λ i2 above.
          let same : newest_of (facts_of c after) i2 ≡ newest_of fs i2 = ap (λ (l : List Fact). newest_of l i2) is ∙ cond-false _ _ _ (ne_eqb j i2 (λ e2. omega arith)) ∙ over_delivery (λ (l : List Fact). newest_of l i2) j s fs refl in
          let old = sent.newer i2 (omega arith) in
          omega arith;
      fits = λ i2 above high. fits_stays net rules past c conn known rate i2 (omega arith) high e refl (other i2 above) (sent.fits i2 (omega arith) high);
    }
  where
    plus_one : (n : ℕ) → (n + 1) - 1 ≡ n
    plus_one n = omega arith

-- after the first i hops were visited
pub passes : (net : Topology) → IsWithinRules net → (past : Past) (c : ℕ) (conn : Conn) → conn_at net c ≡ Some conn → (s rate : ℕ) → HasPassed net past c conn s rate 0 →
    (i : ℕ) → i ≤ length conn.path →
    (outcomes_from net past (out_over c s i) ≡ replicate i (Requested Pass)) × HasPassed net (facts_from net past (out_over c s i)) c conn s rate i
passes net rules past c conn known s rate sent zero high = (refl, sent)
passes net rules past c conn known s rate sent (suc i) high =
    let old = passes net rules past c conn known s rate sent i (omega arith) in
    let here = facts_from net past (out_over c s i) in
    let e = Request c (suc i) s in
    let room : i < length conn.path = omega arith in
    let hop : i + 1 ≡ suc i = omega arith in
    let passed : outcome_of net here e ≡ Requested Pass = subst (λ (h : ℕ). outcome_of net here (Request c h s) ≡ Requested Pass) hop (passes_next net rules here c conn known s rate i room old.1) in
    let next : HasPassed net (after_event net here e) c conn s rate (suc i) =
    subst (λ (h : ℕ). HasPassed net (after_event net here (Request c h s)) c conn s rate h) hop (has_passed_next net rules here c conn known s rate i room old.1) in (
      outcomes_from_push net past (out_over c s i) e ∙ ap (λ (os : List Outcome). os ++ outcome_of net here e ∷ []) old.0 ∙ ap (λ (o : Outcome). replicate i (Requested Pass) ++ o ∷ []) passed
          ∙ replicate_more i (Requested Pass) ∙ ap (λ (n : ℕ). replicate n (Requested Pass)) hop,
      subst (λ (v : Past). HasPassed net v c conn s rate (suc i)) (sym (facts_from_push net past (out_over c s i) e)) next,
    )
