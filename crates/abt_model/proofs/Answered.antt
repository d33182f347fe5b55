-- What follows from the answers that a source hears.
use Rattle.std.proofs.Common.{◌≡◌, ℕ, ◌-◌, ◌≤◌, ◌⊎◌, inl, inr, refl, ap, true, false, List, [], ◌∷◌, ◌∙◌, sym, subst, arith}
use Rattle.std.specs.Prelude.{◌==◌, not, if◌then◌else◌}
use Rattle.std.proofs.lemmas.Bool.{false≢true, eqb-true, ne_eqb, cases_lt, false_from_ne_true, and_from, cond_both, not-false}
use Rattle.abt_facts.specs.declared.fact.Fact.{Fact}
use Rattle.abt_facts.specs.declared.fact.Fact.TheVariants.{Heard}
use Rattle.abt_model.specs.declared.event.Event.TheVariants.{Told}
use Rattle.abt_model.specs.declared.outcome.Outcome.{Outcome}
use Rattle.abt_net.specs.declared.conn.Conn.{Conn}
use Rattle.abt_model.specs.declared.outcome.Cause.TheVariants.{NotSent}
use Rattle.abt_model.specs.declared.outcome.Heard.{Heard as Hearing}
use Rattle.abt_model.specs.declared.outcome.Heard.TheVariants.{Raised, Ignored}
use Rattle.abt_model.specs.declared.outcome.Outcome.TheVariants.{Told as HasTold, NotEnabled}
use Rattle.abt_facts.specs.Requests.{was_asked, floor_of}
use Rattle.abt_facts.specs.Source.{SourceState, Down, Idle, Asking, state_of, rate_of, last_of, yes_was_heard}
use Rattle.abt_facts.specs.Sent.{was_shut, was_back, answer_is_home}
use Rattle.abt_facts.specs.Hop.{newest_of, is_open_at}
use Rattle.abt_net.specs.Topology.{Topology, conn_at}
use Rattle.abt_model.specs.Past.{Past, facts_of}
use Rattle.abt_model.specs.Answers.{hearing, told_answer}
use Rattle.abt_model.specs.Promises.{YesWasSent, NoWasSent, OneAnswerEach, RatesWait, YesStandsEverywhere}
use Rattle.abt_model.proofs.Chain.{passed_all, turned_passed, back_turned, turned_open, back_open, asked_last, newest_asked}
use Rattle.abt_model.proofs.Worlds.{cases_option, outcome_of-known, IsConnLawful, AllLawful, lawful_at}
use Rattle.abt_model.proofs.Lawful.{Route, route_of, IsLawful}
use Rattle.abt_model.proofs.Drops.{yes_sent}
use Rattle.abt_model.proofs.Cases.{passed_newest}
use Rattle.abt_model.proofs.Backed.{asking, rate_backed}

-- after a request was asked the rate is at most its floor, until a yes to it or a later one is heard
lowered : (l : Route) (fs : List Fact) → IsLawful l fs → (q : ℕ) → was_asked fs q ≡ true → (rate_of fs ≤ floor_of fs q) ⊎ ((h : ℕ) × (q ≤ h) × (yes_was_heard fs h ≡ true))
lowered l fs lawful q a =
    let backed = rate_backed l fs lawful in
    let number = (asked_last l fs lawful).1 q a in
    elim (cases_lt backed.from q) [
      | inl lt ↦ inl (backed.floors q a lt (omega arith))
      | inr ge ↦ elim backed.heard [ inl z ↦ absurd (omega arith) | inr h ↦ inr (backed.from, ge, h) ]
    ]

-- where a yes is heard each hop has that number as its newest, and open
heard_everywhere : (l : Route) (fs : List Fact) → (s : ℕ) → IsLawful l (Heard s true ∷ fs) → (j : ℕ) → 1 ≤ j → j ≤ l.hops → (newest_of fs j ≡ s) × (was_shut fs s j ≡ false) × (1 ≤ s)
heard_everywhere l fs s lawful j low high =
    let t = back_turned l fs lawful.1 s 1 l.hops (omega arith) lawful.0.1 in
    let p = passed_all l fs lawful.1 s l.hops j (l.hops - j) (turned_passed l fs lawful.1 s t) low (omega arith) in
    let at_least = passed_newest s j fs p in
    let now = asking l fs lawful.1 s lawful.0.0 in
    let number = (asked_last l fs lawful.1).1 s now.2 in
    let at_most : newest_of fs j ≤ last_of fs = elim (newest_asked l fs lawful.1 j) [ inl z ↦ omega arith | inr a ↦ (let n = (asked_last l fs lawful.1).1 (newest_of fs j) a in omega arith) ] in
    (omega arith, false_from_ne_true _ (λ h. back_open l fs lawful.1 s 1 j lawful.0.1 h), number.0)

-- a source that is raised waited for that number
raised_tells : (st : SourceState) (s : ℕ) → told_answer st s true ≡ Raised → st ≡ Asking s
raised_tells Down s e = absurd (cc)
raised_tells Idle s e = absurd (cc)
raised_tells (Asking t) s e =
    (cond_both (t == s) (hearing true) Ignored (λ (o : Hearing). o ≡ Raised → Asking t ≡ Asking s) (λ e h. ap Asking (eqb-true t s e)) (λ e h. absurd (cc))) e

told_tells : (fs : List Fact) (s : ℕ) → (if not (answer_is_home fs s true) then NotEnabled NotSent else HasTold (told_answer (state_of fs) s true)) ≡ HasTold Raised → (state_of fs ≡ Asking s) × (was_back fs s 1 ≡ true)
told_tells fs s =
    cond_both (not (answer_is_home fs s true)) _ _ (λ (o : Outcome). o ≡ HasTold Raised → (state_of fs ≡ Asking s) × (was_back fs s 1 ≡ true))
    (λ e h. absurd (cc))
    (λ e h. (raised_tells (state_of fs) s (cc), not-false _ e))

open_from : (fs : List Fact) (s j : ℕ) → newest_of fs j ≡ s → was_shut fs s j ≡ false → 1 ≤ s → is_open_at fs j ≡ true
open_from fs s j newest fresh some =
    let differ : (newest_of fs j == 0) ≡ false = ne_eqb _ _ (λ z. omega arith) in
    let unshut : was_shut fs (newest_of fs j) j ≡ false = ap (λ n. was_shut fs n j) newest ∙ fresh in
    and_from _ _ (ap not differ) (ap not unshut)

pub yes_everywhere : (net : Topology) (past : Past) → AllLawful net past → YesStandsEverywhere net past
yes_everywhere net past lawful c s conn known told hop low high =
    let fs = facts_of c past in
    let law = lawful_at net past lawful c conn known in
    let tells = told_tells fs s (sym (outcome_of-known net past (Told c s true) c conn refl known) ∙ told) in
    let is = heard_everywhere (route_of conn) fs s (tells, law) hop low high in
    (is.0, open_from fs s hop is.0 is.1 is.2)

-- by cases on whether the net has the connection
pub past_cases : (net : Topology) (past : Past) → AllLawful net past → (c : ℕ) (P : List Fact → Type 0) → P [] → ((conn : Conn) → IsLawful (route_of conn) (facts_of c past) → P (facts_of c past)) → P (facts_of c past)
past_cases net past lawful c P none some = elim (cases_option (conn_at net c)) [
  | inl unknown ↦ (let empty : facts_of c past ≡ [] = subst (λ o. IsConnLawful o (facts_of c past)) unknown (lawful c) in subst P (sym empty) none)
  | inr known ↦ some known.0 (lawful_at net past lawful c known.0 known.1)
]

pub rates_wait : (net : Topology) (past : Past) → AllLawful net past → RatesWait net past
rates_wait net past lawful c q =
    past_cases net past lawful c (λ (fs : List Fact). was_asked fs q ≡ true → (rate_of fs ≤ floor_of fs q) ⊎ ((h : ℕ) × (q ≤ h) × (yes_was_heard fs h ≡ true)))
    (λ a. inl (omega arith)) (λ conn law a. lowered (route_of conn) (facts_of c past) law q a)

both_sent : (l : Route) (fs : List Fact) → IsLawful l fs → (s : ℕ) → YesWasSent fs s → NoWasSent fs s → ⊥
both_sent l fs law s yes_sent no_sent = elim yes_sent [
  | inl t ↦ turned_open l fs law s no_sent.0 t no_sent.1
  | inr b ↦ back_open l fs law s b.0 no_sent.0 b.1 no_sent.1
]

pub one_answer_each : (net : Topology) (past : Past) → AllLawful net past → OneAnswerEach net past
one_answer_each net past lawful c s =
    past_cases net past lawful c (λ (fs : List Fact). YesWasSent fs s → NoWasSent fs s → ⊥)
    (λ y n. false≢true n.1) (λ conn law y n. both_sent (route_of conn) (facts_of c past) law s y n)
