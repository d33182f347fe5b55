-- What the facts of each connection say after every list of events.
use Rattle.std.proofs.Common.{◌≡◌, ◌≢◌, ℕ, zero, suc, ◌⊎◌, inl, inr, refl, ap, List, [], ◌∷◌, ◌++◌, ◌∙◌, sym, subst, arith}
use Rattle.std.specs.Prelude.{slice_get, All, Option, None, Some}
use Rattle.std.proofs.lemmas.Bool.{ne_eqb, eq-eqb, cond-false, cond-true, cases_eq}
use Rattle.abt_facts.specs.declared.fact.Fact.{Fact}
use Rattle.abt_model.specs.declared.event.Event.{Event}
use Rattle.abt_model.specs.declared.outcome.Outcome.{Outcome}
use Rattle.abt_net.specs.declared.conn.Conn.{Conn}
use Rattle.abt_model.specs.declared.outcome.Cause.TheVariants.{Unknown}
use Rattle.abt_model.specs.declared.outcome.Outcome.TheVariants.{NotEnabled}
use Rattle.abt_net.specs.Topology.{Topology, conn_at}
use Rattle.abt_model.specs.Events.{AsksRate}
use Rattle.abt_model.specs.Past.{Past, facts_of, with_facts}
use Rattle.abt_model.specs.Reserved.{reserved_on, capacity_of}
use Rattle.abt_model.specs.Answers.{answer_by}
use Rattle.abt_model.specs.Outcomes.{conn_of, port_of, outcome_at, outcome_by, outcome_of, facts_added, past_by, after_event}
use Rattle.abt_model.proofs.Capacities.{port_facts_apart}
use Rattle.abt_model.proofs.Lawful.{route_of, IsLawful}
use Rattle.abt_model.proofs.Steps.{down_adds, step_lawful}

pub cases_option : {A : Type 0} → (o : Option A) → (o ≡ None) ⊎ ((x : A) × (o ≡ Some x))
cases_option None = inl refl
cases_option (Some x) = inr (x, refl)

pub facts_of-with_facts : (c : ℕ) (fs : List Fact) (past : Past) → facts_of c (with_facts c fs past) ≡ fs ++ facts_of c past
facts_of-with_facts c [] past = refl
facts_of-with_facts c (f ∷ fs) past = cond-true _ _ _ (eq-eqb c c refl) ∙ ap (λ (l : List Fact). f ∷ l) (facts_of-with_facts c fs past)

pub facts_of-with_facts_other : (c d : ℕ) (fs : List Fact) (past : Past) → c ≢ d → facts_of d (with_facts c fs past) ≡ facts_of d past
facts_of-with_facts_other c d [] past differ = refl
facts_of-with_facts_other c d (f ∷ fs) past differ = cond-false _ _ _ (ne_eqb c d differ) ∙ facts_of-with_facts_other c d fs past differ

pub none_some : (d : ℕ) → None ≡ Some d → ⊥
none_some d same = absurd (cc)

-- whether an event is of this connection
owner_cases : (o : Option ℕ) (d : ℕ) → (o ≡ Some d) ⊎ (o ≢ Some d)
owner_cases None d = inr (λ same. none_some d same)
owner_cases (Some c) d = elim (cases_eq c d) [ inl same ↦ inl (ap Some same) | inr differ ↦ inr (λ same. differ (cc)) ]

pub conn_cases : (e : Event) (d : ℕ) → (conn_of e ≡ Some d) ⊎ (conn_of e ≢ Some d)
conn_cases e d = owner_cases (conn_of e) d

pub other_conn : (c d : ℕ) → c ≢ d → Some c ≢ Some d
other_conn c d differ same = differ (cc)

-- the facts of a connection after an event of its own, and after one of another or of none
pub facts_of-own : (net : Topology) (past : Past) (e : Event) (c : ℕ) → conn_of e ≡ Some c →
    facts_of c (after_event net past e) ≡ facts_added (facts_of c past) e (outcome_of net past e) ++ facts_of c past
facts_of-own net past e c own =
    ap (λ (o : Option ℕ). facts_of c (past_by past e (outcome_of net past e) o)) own
    ∙ facts_of-with_facts c (facts_added (facts_of c past) e (outcome_of net past e)) past

other_facts : (past : Past) (e : Event) (outcome : Outcome) (o : Option ℕ) (d : ℕ) → o ≢ Some d → facts_of d (past_by past e outcome o) ≡ facts_of d past
other_facts past e outcome None d differ = port_facts_apart e outcome d past
other_facts past e outcome (Some c) d differ = facts_of-with_facts_other c d _ past (λ same. differ (ap Some same))

pub facts_of-other : (net : Topology) (past : Past) (e : Event) (d : ℕ) → conn_of e ≢ Some d → facts_of d (after_event net past e) ≡ facts_of d past
facts_of-other net past e d differ = other_facts past e (outcome_of net past e) (conn_of e) d differ

-- the outcome of an event of a connection of the net
pub outcome_of-known : (net : Topology) (past : Past) (e : Event) (c : ℕ) (conn : Conn) → conn_of e ≡ Some c → conn_at net c ≡ Some conn →
    outcome_of net past e ≡ answer_by conn (reserved_on net past (port_of conn.path e)) (capacity_of net past (port_of conn.path e)) (facts_of c past) e
outcome_of-known net past e c conn own known =
    ap (outcome_by net past e) own ∙ ap (λ (o : Option Conn). outcome_at net past c o e) known

-- and of one that it doesn't have
pub outcome_of-unknown : (net : Topology) (past : Past) (e : Event) (c : ℕ) → conn_of e ≡ Some c → conn_at net c ≡ None → outcome_of net past e ≡ NotEnabled Unknown
outcome_of-unknown net past e c own unknown = ap (outcome_by net past e) own ∙ ap (λ (o : Option Conn). outcome_at net past c o e) unknown

pub after_event-unknown : (net : Topology) (past : Past) (e : Event) (c : ℕ) → conn_of e ≡ Some c → conn_at net c ≡ None → after_event net past e ≡ past
after_event-unknown net past e c own unknown =
    ap (past_by past e (outcome_of net past e)) own
    ∙ ap (λ (o : Outcome). with_facts c (facts_added (facts_of c past) e o) past) (outcome_of-unknown net past e c own unknown)
    ∙ ap (λ (l : List Fact). with_facts c l past) (down_adds (facts_of c past) e Unknown)

-- the facts of a connection are lawful, and those of none are none
abbrev pub IsConnLawful : Option Conn → List Fact → Type 0
IsConnLawful None fs = fs ≡ []
IsConnLawful (Some conn) fs = IsLawful (route_of conn) fs

abbrev pub AllLawful : Topology → Past → Type 0
AllLawful net past = (c : ℕ) → IsConnLawful (conn_at net c) (facts_of c past)

pub lawful_at : (net : Topology) (past : Past) → AllLawful net past → (c : ℕ) (conn : Conn) → conn_at net c ≡ Some conn → IsLawful (route_of conn) (facts_of c past)
lawful_at net past lawful c conn known = subst (λ o. IsConnLawful o (facts_of c past)) known (lawful c)

own_lawful : (net : Topology) (past : Past) → AllLawful net past → (e : Event) → AsksRate e → (c : ℕ) → conn_of e ≡ Some c → IsConnLawful (conn_at net c) (facts_of c (after_event net past e))
own_lawful net past lawful e rate c own = elim (cases_option (conn_at net c)) [
  | inl unknown ↦ subst (λ w. IsConnLawful (conn_at net c) (facts_of c w)) (sym (after_event-unknown net past e c own unknown)) (lawful c)
  | inr known ↦ (
      let conn = known.0 in
      let fs = facts_of c past in
      let is = facts_of-own net past e c own ∙ ap (λ (o : Outcome). facts_added fs e o ++ fs) (outcome_of-known net past e c conn own known.1) in
      subst (λ o. IsConnLawful o (facts_of c (after_event net past e))) (sym known.1) (
      subst (IsLawful (route_of conn)) (sym is) (step_lawful conn _ _ fs (lawful_at net past lawful c conn known.1) e rate)))
]

pub after_event_lawful : (net : Topology) (past : Past) → AllLawful net past → (e : Event) → AsksRate e → AllLawful net (after_event net past e)
after_event_lawful net past lawful e rate d = elim (conn_cases e d) [
  | inl own ↦ own_lawful net past lawful e rate d own
  | inr differ ↦ subst (IsConnLawful (conn_at net d)) (sym (facts_of-other net past e d differ)) (lawful d)
]

pub nothing_lawful : (net : Topology) → AllLawful net []
nothing_lawful net c = elim (cases_option (conn_at net c)) [
  | inl unknown ↦ subst (λ o. IsConnLawful o []) (sym unknown) refl
  | inr known ↦ subst (λ o. IsConnLawful o []) (sym known.1) tt
]

-- each asked rate is a rate: that of the first event, and those of the others
pub first_asks : (e : Event) (es : List Event) → All AsksRate (e ∷ es) → AsksRate e
first_asks e es all = all 0 e (omega arith)

pub others_ask : (e : Event) (es : List Event) → All AsksRate (e ∷ es) → All AsksRate es
others_ask e es all = λ k d low. all (suc k) d (omega arith)

-- what holds of each element holds of the one at a place
pub all_at : {A : Type 0} → (P : A → Type 0) → (xs : List A) (i : ℕ) (x : A) → All P xs → slice_get xs i ≡ Some x → P x
all_at P [] i x all e = absurd (cc)
all_at P (y ∷ xs) zero x all e = (let is : y ≡ x = cc in subst P is (all 0 y (omega arith)))
all_at P (y ∷ xs) (suc i) x all e = all_at P xs i x (λ k d low. all (suc k) d (omega arith)) e
