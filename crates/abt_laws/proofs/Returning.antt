-- A yes comes back over each hop in turn, and raises the source that waits for it.
use Rattle.std.proofs.Common.{◌≡◌, ℕ, zero, suc, ◌+◌, ◌-◌, ◌≤◌, ◌<◌, inl, inr, refl, ap, true, false, List, [], ◌∷◌, ◌++◌, length, ◌∙◌, sym, arith}
use Rattle.std.specs.Prelude.{not, replicate, Some}
use Rattle.std.proofs.lemmas.Bool.{false≢true, eq-eqb, ne_eqb, cond-true, cond-false, or_left, and_from}
use Rattle.abt_cell.specs.Message.{Reply, answer_to}
use Rattle.abt_node.specs.declared.reply.DropCause.TheVariants.{UnknownVc, Stale, Conflict, FloorAbove}
use Rattle.abt_node.specs.declared.reply.Back.{Back as Returned}
use Rattle.abt_node.specs.declared.reply.Back.TheVariants.{Pass as PassBack, Drop as DropBack}
use Rattle.abt_node.specs.Reservation.{Reservation}
use Rattle.abt_node.specs.Rule.{IsAnswered}
use Rattle.abt_node.proofs.RuleLemmas.{answer_of-IsAnswered}
use Rattle.abt_net.specs.declared.conn.Conn.{Conn}
use Rattle.abt_net.specs.Topology.{Topology, conn_at}
use Rattle.abt_facts.specs.declared.fact.Fact.{Fact}
use Rattle.abt_facts.specs.declared.fact.Fact.TheVariants.{Turned, Back, Heard}
use Rattle.abt_facts.specs.Requests.{ask_of}
use Rattle.abt_facts.specs.Source.{SourceState, Asking, state_of, rate_of}
use Rattle.abt_facts.specs.Sent.{was_passed, was_back, yes_is_at}
use Rattle.abt_facts.specs.Hop.{newest_of, held_of}
use Rattle.abt_source.specs.SourceFacts.{request_of}
use Rattle.abt_model.specs.declared.event.Event.TheVariants.{Turn, Answer, Told}
use Rattle.abt_model.specs.declared.outcome.Heard.TheVariants.{Raised}
use Rattle.abt_model.specs.declared.outcome.Outcome.{Outcome}
use Rattle.abt_model.specs.declared.outcome.Outcome.TheVariants.{Turned as HasTurned, Answered, Told as HasTold}
use Rattle.abt_model.specs.Past.{Past, facts_of}
use Rattle.abt_model.specs.Decision.{reservation_at}
use Rattle.abt_model.specs.Answers.{told_answer}
use Rattle.abt_model.specs.Outcomes.{outcome_of, facts_added, after_event}
use Rattle.abt_model.specs.Run.{facts_from, outcomes_from}
use Rattle.abt_model.specs.Promises.{disputes}
use Rattle.abt_model.proofs.Answered.{yes_everywhere}
use Rattle.abt_model.proofs.Backed.{asking}
use Rattle.abt_model.proofs.Chain.{asked_last, newest_asked}
use Rattle.abt_model.proofs.Decisions.{held_by-held, decided_back}
use Rattle.abt_model.proofs.Drops.{outcome_agrees}
use Rattle.abt_model.proofs.Lawful.{Route, route_of, IsLawful}
use Rattle.abt_model.proofs.Worlds.{facts_of-own, outcome_of-known, AllLawful, lawful_at, after_event_lawful}
use Rattle.abt_laws.specs.RoundTrips.{back_over}
use Rattle.abt_laws.proofs.Passing.{HasPassed, hop_is}

-- the rule passes a yes to a number that isn't below the newest, unless the two sides disagree
rule_returns : (r : Reservation) (a : Reply) (d : Returned) → IsAnswered r a d → disputes (Answered d) ≡ false → r.newest ≤ a.terms.seq → d ≡ PassBack
rule_returns r a PassBack is agrees newest = refl
rule_returns r a (DropBack UnknownVc) is agrees newest = absurd is
rule_returns r a (DropBack Stale) is agrees newest = absurd (omega arith)
rule_returns r a (DropBack Conflict) is agrees newest = absurd (false≢true (sym agrees))
rule_returns r a (DropBack FloorAbove) is agrees newest = absurd is

-- The yes to request s for a rate lies at hop i, or at its source where i is 0, and the source waits for it.
pub record ComesBack (net : Topology) (past : Past) (c : ℕ) (conn : Conn) (s rate i : ℕ) : Type 0 where
  pub lawful : AllLawful net past
  pub waits : state_of (facts_of c past) ≡ Asking s
  pub asks : ask_of (facts_of c past) s ≡ rate
  pub lies : yes_is_at (length conn.path) (facts_of c past) s i ≡ true

-- what passed the last hop is turned into a yes there
pub turns : (net : Topology) (past : Past) (c : ℕ) (conn : Conn) → conn_at net c ≡ Some conn → (s rate : ℕ) → 1 ≤ length conn.path → HasPassed net past c conn s rate (length conn.path) →
    (outcome_of net past (Turn c s) ≡ HasTurned) × ComesBack net (after_event net past (Turn c s)) c conn s rate (length conn.path)
turns net past c conn known s rate some sent =
    let fs = facts_of c past in
    let k = length conn.path in
    let e = Turn c s in
    let through : was_passed fs s k ≡ true = sym (cond-false _ _ _ (ne_eqb (k + 1) 1 (λ one. omega arith)) ∙ ap (λ (h : ℕ). was_passed fs s h) (back_one k)) ∙ sent.lies in
    let turned : outcome_of net past e ≡ HasTurned = outcome_of-known net past e c conn refl known ∙ cond-false _ _ _ (ap not through) in
    let is : facts_of c (after_event net past e) ≡ Turned s ∷ fs = facts_of-own net past e c refl ∙ ap (λ (o : Outcome). facts_added fs e o ++ fs) turned in (
      turned,
      record {
        lawful = after_event_lawful net past sent.lawful e tt;
        waits = ap state_of is ∙ sent.waits;
        asks = ap (λ (l : List Fact). ask_of l s) is ∙ sent.asks;
        lies = ap (λ (l : List Fact). yes_is_at k l s k) is ∙ cond-true _ _ _ (eq-eqb k k refl) ∙ or_left _ _ (eq-eqb s s refl);
      },
    )
  where
    back_one : (n : ℕ) → (n + 1) - 1 ≡ n
    back_one n = omega arith

newest_last : (k : Route) (fs : List Fact) → IsLawful k fs → (s j : ℕ) → state_of fs ≡ Asking s → newest_of fs j ≤ s
newest_last k fs lawful s j waits =
    let now = asking k fs lawful s waits in
    elim (newest_asked k fs lawful j) [
      | inl z ↦ omega arith
      | inr a ↦ (let number = (asked_last k fs lawful).1 (newest_of fs j) a in omega arith)
    ]

returns_over : (net : Topology) (past : Past) (c : ℕ) (conn : Conn) → conn_at net c ≡ Some conn → (s rate i : ℕ) → i < length conn.path → ComesBack net past c conn s rate (suc i) →
    (outcome_of net past (Answer c (suc i) s true) ≡ Answered PassBack) × ComesBack net (after_event net past (Answer c (suc i) s true)) c conn s rate i
returns_over net past c conn known s rate i room back =
    let fs = facts_of c past in
    let k = length conn.path in
    let j = suc i in
    let e = Answer c j s true in
    let law = lawful_at net past back.lawful c conn known in
    let d = decided_back conn.vc fs j s true in
    let is_answered : outcome_of net past e ≡ Answered d = outcome_of-known net past e c conn refl known
    ∙ cond-false _ _ _ (hop_is k j (omega arith) (omega arith)) ∙ cond-false _ _ _ (ap not back.lies) in
    let agrees : disputes (Answered d) ≡ false = sym (ap disputes is_answered) ∙ outcome_agrees net past back.lawful e in
    let passes = rule_returns (reservation_at fs j) (answer_to (request_of conn.vc fs s) true) d
    (answer_of-IsAnswered (reservation_at fs j) (answer_to (request_of conn.vc fs s) true)) agrees (newest_last (route_of conn) fs law s j back.waits) in
    let answered : outcome_of net past e ≡ Answered PassBack = is_answered ∙ ap Answered passes in
    let is : facts_of c (after_event net past e) ≡ Back s j ∷ fs = facts_of-own net past e c refl ∙ ap (λ (o : Outcome). facts_added fs e o ++ fs) answered in
    let hop : i + 1 ≡ j = omega arith in (
      answered,
      record {
        lawful = after_event_lawful net past back.lawful e tt;
        waits = ap state_of is ∙ back.waits;
        asks = ap (λ (l : List Fact). ask_of l s) is ∙ back.asks;
        lies = ap (λ (l : List Fact). yes_is_at k l s i) is ∙ cond-false _ _ _ (ne_eqb i k (λ same. omega arith))
            ∙ ap (λ (h : ℕ). was_back (Back s j ∷ fs) s h) hop ∙ or_left _ _ (and_from _ _ (eq-eqb s s refl) (eq-eqb j j refl));
      },
    )

-- Its source is raised: it shapes at the rate, and each hop holds that.
pub record IsRaised (past : Past) (c : ℕ) (conn : Conn) (rate : ℕ) : Type 0 where
  pub shapes : rate_of (facts_of c past) ≡ rate
  pub holds : (hop : ℕ) → 1 ≤ hop → hop ≤ length conn.path → held_of (facts_of c past) hop ≡ rate

hears : (net : Topology) (past : Past) (c : ℕ) (conn : Conn) → conn_at net c ≡ Some conn → (s rate : ℕ) → 1 ≤ length conn.path → ComesBack net past c conn s rate 0 →
    (outcome_of net past (Told c s true) ≡ HasTold Raised) × IsRaised (after_event net past (Told c s true)) c conn rate
hears net past c conn known s rate some back =
    let fs = facts_of c past in
    let k = length conn.path in
    let e = Told c s true in
    let home : was_back fs s 1 ≡ true = sym (cond-false _ _ _ (ne_eqb 0 k (λ none. omega arith))) ∙ back.lies in
    let told : outcome_of net past e ≡ HasTold Raised = outcome_of-known net past e c conn refl known ∙ cond-false _ _ _ (ap not home)
    ∙ ap (λ (st : SourceState). HasTold (told_answer st s true)) back.waits ∙ ap HasTold (cond-true _ _ _ (eq-eqb s s refl)) in
    let is : facts_of c (after_event net past e) ≡ Heard s true ∷ fs = facts_of-own net past e c refl ∙ ap (λ (o : Outcome). facts_added fs e o ++ fs) told in (
      told,
      record {
        shapes = ap rate_of is ∙ back.asks;
        holds = λ hop low high.
            let there = yes_everywhere net past back.lawful c s conn known told hop low high in
            ap (λ (l : List Fact). held_of l hop) is ∙ sym (held_by-held (route_of conn) fs (lawful_at net past back.lawful c conn known) hop)
            ∙ cond-true _ _ _ there.1 ∙ ap (λ (n : ℕ). ask_of fs n) there.0 ∙ back.asks;
      },
    )

-- a yes at hop i comes home, and raises
pub comes_home : (net : Topology) (past : Past) (c : ℕ) (conn : Conn) → conn_at net c ≡ Some conn → (s rate : ℕ) → 1 ≤ length conn.path → (i : ℕ) → i ≤ length conn.path → ComesBack net past c conn s rate i →
    (outcomes_from net past (back_over c s i ++ Told c s true ∷ []) ≡ replicate i (Answered PassBack) ++ HasTold Raised ∷ [])
    × IsRaised (facts_from net past (back_over c s i ++ Told c s true ∷ [])) c conn rate
comes_home net past c conn known s rate some zero high back =
    let told = hears net past c conn known s rate some back in
    (ap (λ (o : Outcome). o ∷ []) told.0, told.1)
comes_home net past c conn known s rate some (suc i) high back =
    let over = returns_over net past c conn known s rate i (omega arith) back in
    let e = Answer c (suc i) s true in
    let rest = comes_home net (after_event net past e) c conn known s rate some i (omega arith) over.1 in
    let events = back_over c s i ++ Told c s true ∷ [] in (
      ap (λ (o : Outcome). o ∷ outcomes_from net (after_event net past e) events) over.0 ∙ ap (λ (os : List Outcome). Answered PassBack ∷ os) rest.0,
      rest.1,
    )
