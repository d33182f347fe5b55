-- Each message that was sent is taken on by an event that is enabled.
use Rattle.std.proofs.Common.{◌≡◌, ◌≢◌, ◌∙◌, ℕ, zero, suc, ◌+◌, ◌-◌, ◌<◌, ◌≤◌, ◌⊎◌, Bool, true, false, List, [], ◌∷◌, ◌++◌, inl, inr, refl, sym, ap, subst, arith, length}
use Rattle.std.proofs.lemmas.Bool.{cases_Bool, cases_eq, cond_both, eq-eqb, eqb-true, ne_eqb, false≢true, le-leb, le-ltb, lt-ltb, ltb-true, ltb-false, or_cases}
use Rattle.std.proofs.lemmas.List.Elements.{Contains-append_cases, Contains-append_left, Contains-append_right}
use Rattle.std.specs.Prelude.{◌==◌, None, Some, Option, nat_eq, nat_lt, if◌then◌else◌}
use Rattle.std.specs.List.{Contains}
use Rattle.abt_facts.specs.declared.fact.Fact.{Fact}
use Rattle.abt_facts.specs.declared.fact.Fact.TheVariants as fact
use Rattle.abt_facts.specs.Requests.{is_ask_of, was_asked}
use Rattle.abt_facts.specs.Sent.{was_back, was_passed, was_shut, was_turned}
use Rattle.abt_net.specs.declared.conn.Conn.{Conn}
use Rattle.abt_net.specs.Topology.{IsWithinRules, Topology, conn_at}
use Rattle.abt_model.specs.declared.event.Event.{Event}
use Rattle.abt_model.specs.declared.event.Event.TheVariants.{Request, Turn, Answer, Told}
use Rattle.abt_model.specs.declared.net_fact.NetFact.TheVariants.{OfConn, Capped}
use Rattle.abt_model.specs.Answers.{answer_by}
use Rattle.abt_model.specs.Outcomes.{conn_of, outcome_of}
use Rattle.abt_model.specs.Past.{Past, facts_of}
use Rattle.abt_model.proofs.Cases.{asked_more, back_more, passed_more, shut_more, turned_more}
use Rattle.abt_model.proofs.Chain.{at_asked, back_at, back_turned, passed_asked, passed_at, shut_at, turned_passed}
use Rattle.abt_model.proofs.Lawful.{IsLawful, Route, route_of}
use Rattle.abt_model.proofs.Served.{conn_within}
use Rattle.abt_model.proofs.Worlds.{AllLawful, cases_option, lawful_at, outcome_of-known}
use Rattle.abt_reason.specs.Sightings.{answer_at, answer_from, hops_at, lying, lying_after, lying_in, newest, request_at, request_from, sent_in}
use Rattle.abt_reason.specs.declared.sighting.Sighting.{Sighting}
use Rattle.abt_step.specs.Possible.{IsEnabled, MessagesArePossible, asks_of, messages_at, next_of, possible_messages}

-- how a message came to lie there
abbrev IsSent : (c hops : ℕ) → List Fact → (seq : ℕ) → Sighting → Type 0
IsSent c hops facts seq s =
    ((s ≡ request_at c hops 1 seq) × (was_asked facts seq ≡ true))
    ⊎ (((j : ℕ) × (s ≡ request_at c hops (j + 1) seq) × (was_passed facts seq j ≡ true))
    ⊎ (((s ≡ answer_at c hops seq true) × (was_turned facts seq ≡ true))
    ⊎ (((j : ℕ) × (s ≡ answer_at c (j - 1) seq true) × (was_back facts seq j ≡ true))
    ⊎ ((j : ℕ) × (s ≡ answer_at c (j - 1) seq false) × (was_shut facts seq j ≡ true)))))

sent_more : (c hops : ℕ) (f : Fact) (fs : List Fact) (q : ℕ) (s : Sighting) → IsSent c hops fs q s → IsSent c hops (f ∷ fs) q s
sent_more c hops f fs q s (inl asked) = inl (asked.0, asked_more q f fs asked.1)
sent_more c hops f fs q s (inr (inl passed)) = inr (inl (passed.0, passed.1, passed_more q passed.0 f fs passed.2))
sent_more c hops f fs q s (inr (inr (inl turned))) = inr (inr (inl (turned.0, turned_more q f fs turned.1)))
sent_more c hops f fs q s (inr (inr (inr (inl back)))) = inr (inr (inr (inl (back.0, back.1, back_more q back.0 f fs back.2))))
sent_more c hops f fs q s (inr (inr (inr (inr shut)))) = inr (inr (inr (inr (shut.0, shut.1, shut_more q shut.0 f fs shut.2))))

abbrev or_else : Sighting → Option Sighting → Sighting
or_else other None = other
or_else other (Some s) = s

some_same : (a b : Sighting) → Some a ≡ Some b → a ≡ b
some_same a b is = ap (or_else a) is

none_some : (s : Sighting) → None ≡ Some s → ⊥
none_some s is = cc is

-- a message was sent just then, or lay there before
now_or_before : (seq q : ℕ) (there : Sighting) (before : Option Sighting) (s : Sighting) → (if nat_eq seq q then Some there else before) ≡ Some s
    → ((seq ≡ q) × (there ≡ s)) ⊎ (before ≡ Some s)
now_or_before seq q there before s h = elim (cases_Bool (nat_eq seq q)) [
  | inl same ↦ inl (eqb-true seq q same, some_same there s (sym (ap (λ (b : Bool). if b then Some there else before) same) ∙ h))
  | inr differ ↦ inr (sym (ap (λ (b : Bool). if b then Some there else before) differ) ∙ h)
]

-- a message lies where it was sent
lying_sent : (c hops : ℕ) (fs : List Fact) (q : ℕ) (s : Sighting) → lying_in c hops fs q ≡ Some s → IsSent c hops fs q s
lying_sent c hops [] q s h = absurd (none_some s h)
lying_sent c hops (fact.Asked seq floor ask mark ∷ fs) q s h =
    elim (now_or_before seq q (request_at c hops 1 seq) (lying_in c hops fs q) s h) [
      | inl now ↦ inl (sym now.1 ∙ ap (request_at c hops 1) now.0, rw (eq-eqb seq q now.0) refl)
      | inr before ↦ sent_more c hops (fact.Asked seq floor ask mark) fs q s (lying_sent c hops fs q s before)
    ]
lying_sent c hops (fact.Passed seq hop ∷ fs) q s h =
    elim (now_or_before seq q (request_at c hops (hop + 1) seq) (lying_in c hops fs q) s h) [
      | inl now ↦ inr (inl (hop, sym now.1 ∙ ap (request_at c hops (hop + 1)) now.0, rw (eq-eqb seq q now.0, eq-eqb hop hop refl) refl))
      | inr before ↦ sent_more c hops (fact.Passed seq hop) fs q s (lying_sent c hops fs q s before)
    ]
lying_sent c hops (fact.Turned seq ∷ fs) q s h =
    elim (now_or_before seq q (answer_at c hops seq true) (lying_in c hops fs q) s h) [
      | inl now ↦ inr (inr (inl (sym now.1 ∙ ap (λ n. answer_at c hops n true) now.0, rw (eq-eqb seq q now.0) refl)))
      | inr before ↦ sent_more c hops (fact.Turned seq) fs q s (lying_sent c hops fs q s before)
    ]
lying_sent c hops (fact.Back seq hop ∷ fs) q s h =
    elim (now_or_before seq q (answer_at c (hop - 1) seq true) (lying_in c hops fs q) s h) [
      | inl now ↦ inr (inr (inr (inl (hop, sym now.1 ∙ ap (λ n. answer_at c (hop - 1) n true) now.0, rw (eq-eqb seq q now.0, eq-eqb hop hop refl) refl))))
      | inr before ↦ sent_more c hops (fact.Back seq hop) fs q s (lying_sent c hops fs q s before)
    ]
lying_sent c hops (fact.Shut seq hop ∷ fs) q s h =
    elim (now_or_before seq q (answer_at c (hop - 1) seq false) (lying_in c hops fs q) s h) [
      | inl now ↦ inr (inr (inr (inr (hop, sym now.1 ∙ ap (λ n. answer_at c (hop - 1) n false) now.0, rw (eq-eqb seq q now.0, eq-eqb hop hop refl) refl))))
      | inr before ↦ sent_more c hops (fact.Shut seq hop) fs q s (lying_sent c hops fs q s before)
    ]
lying_sent c hops (f ∷ fs) q s h = sent_more c hops f fs q s (lying_sent c hops fs q s h)

-- an event of a connection that is enabled, whatever its port holds
record TakesOn (c : ℕ) (conn : Conn) (facts : List Fact) (event : Event) : Type 0 where
  own : conn_of event ≡ Some c
  enabled : (reserved capacity : ℕ) → IsEnabled (answer_by conn reserved capacity facts event)

asked_on : (c : ℕ) (conn : Conn) (facts : List Fact) (q : ℕ) → 1 ≤ length conn.path → was_asked facts q ≡ true
    → TakesOn c conn facts (request_from c (length conn.path) 1 q)
asked_on c conn facts q some asked =
    rw (le-ltb (length conn.path) 1 some) (record { own = refl; enabled = λ r k. rw (le-leb 1 (length conn.path) some, asked) tt })

passed_on : (c : ℕ) (conn : Conn) (facts : List Fact) (q j : ℕ) → 1 ≤ j → j ≤ length conn.path → was_passed facts q j ≡ true
    → TakesOn c conn facts (request_from c (length conn.path) (j + 1) q)
passed_on c conn facts q j low high passed = elim (cases_Bool (nat_lt (length conn.path) (j + 1))) [
  | inl over ↦ (
      let beyond = ltb-true (length conn.path) (j + 1) over in
      let last : j ≡ length conn.path = omega (arith, beyond, high) in
      let through : was_passed facts q (length conn.path) ≡ true = subst (λ n. was_passed facts q n ≡ true) last passed in
      rw over (record { own = refl; enabled = λ r k. rw through tt }))
  | inr within ↦ (
      let more = ltb-false (length conn.path) (j + 1) within in
      let here : was_passed facts q (j + 1 - 1) ≡ true = (let e : j ≡ j + 1 - 1 = omega arith in subst (λ n. was_passed facts q n ≡ true) e passed) in
      rw within (record {
        own = refl;
        enabled = λ r k. rw (le-leb 1 (j + 1) (omega arith), le-leb (j + 1) (length conn.path) more, ne_eqb (j + 1) 1 (λ is. omega (arith, is, low)), here) tt;
      }))
]

turned_on : (c : ℕ) (conn : Conn) (facts : List Fact) (q : ℕ) → 1 ≤ length conn.path → was_turned facts q ≡ true
    → TakesOn c conn facts (answer_from c (length conn.path) q true)
turned_on c conn facts q some turned =
    rw (ne_eqb (length conn.path) 0 (λ is. omega (arith, is, some))) (record {
      own = refl;
      enabled = λ r k. rw (le-leb 1 (length conn.path) some, le-leb (length conn.path) (length conn.path) (omega arith), eq-eqb (length conn.path) (length conn.path) refl, turned) tt;
    })

back_on : (c : ℕ) (conn : Conn) (facts : List Fact) (q j : ℕ) → 1 ≤ j → j ≤ length conn.path → was_back facts q j ≡ true
    → TakesOn c conn facts (answer_from c (j - 1) q true)
back_on c conn facts q j low high back = elim (cases_Bool (j - 1 == 0)) [
  | inl first ↦ (
      let none = eqb-true (j - 1) 0 first in
      let one : j ≡ 1 = omega (arith, none, low) in
      let home : was_back facts q 1 ≡ true = subst (λ n. was_back facts q n ≡ true) one back in
      rw first (record { own = refl; enabled = λ r k. rw home tt }))
  | inr behind ↦ (
      let some : 1 ≤ j - 1 = (let not_one : j - 1 ≡ 0 → ⊥ = λ is. false≢true (sym behind ∙ eq-eqb (j - 1) 0 is) in omega (arith, not_one)) in
      let here : was_back facts q (j - 1 + 1) ≡ true = (let e : j ≡ j - 1 + 1 = omega (arith, low) in subst (λ n. was_back facts q n ≡ true) e back) in
      rw behind (record {
        own = refl;
        enabled = λ r k. rw (le-leb 1 (j - 1) some, le-leb (j - 1) (length conn.path) (omega (arith, high)), ne_eqb (j - 1) (length conn.path) (λ is. omega (arith, is, high, low)), here) tt;
      }))
]

shut_on : (c : ℕ) (conn : Conn) (facts : List Fact) (q j : ℕ) → 1 ≤ j → j ≤ length conn.path → was_shut facts q j ≡ true
    → TakesOn c conn facts (answer_from c (j - 1) q false)
shut_on c conn facts q j low high shut = elim (cases_Bool (j - 1 == 0)) [
  | inl first ↦ (
      let none = eqb-true (j - 1) 0 first in
      let one : j ≡ 1 = omega (arith, none, low) in
      let home : was_shut facts q 1 ≡ true = subst (λ n. was_shut facts q n ≡ true) one shut in
      rw first (record { own = refl; enabled = λ r k. rw home tt }))
  | inr behind ↦ (
      let some : 1 ≤ j - 1 = (let not_one : j - 1 ≡ 0 → ⊥ = λ is. false≢true (sym behind ∙ eq-eqb (j - 1) 0 is) in omega (arith, not_one)) in
      let here : was_shut facts q (j - 1 + 1) ≡ true = (let e : j ≡ j - 1 + 1 = omega (arith, low) in subst (λ n. was_shut facts q n ≡ true) e shut) in
      rw behind (record {
        own = refl;
        enabled = λ r k. rw (le-leb 1 (j - 1) some, le-leb (j - 1) (length conn.path) (omega (arith, high)), lt-ltb (j - 1) (length conn.path) (omega (arith, high, low)), here) tt;
      }))
]

abbrev next : Sighting → Event
next s = s.next

takes_on : (c : ℕ) (conn : Conn) (facts : List Fact) → IsLawful (route_of conn) facts → 1 ≤ length conn.path → (q : ℕ) (s : Sighting)
    → IsSent c (length conn.path) facts q s → TakesOn c conn facts s.next
takes_on c conn facts lawful some q s (inl asked) = subst (TakesOn c conn facts) (ap next (sym asked.0)) (asked_on c conn facts q some asked.1)
takes_on c conn facts lawful some q s (inr (inl (j, is, passed))) =
    let at = passed_at (route_of conn) facts lawful q j passed in
    subst (TakesOn c conn facts) (ap next (sym is)) (passed_on c conn facts q j at.1 at.2 passed)
takes_on c conn facts lawful some q s (inr (inr (inl turned))) = subst (TakesOn c conn facts) (ap next (sym turned.0)) (turned_on c conn facts q some turned.1)
takes_on c conn facts lawful some q s (inr (inr (inr (inl (j, is, back))))) =
    let at = back_at (route_of conn) facts lawful q j back in
    subst (TakesOn c conn facts) (ap next (sym is)) (back_on c conn facts q j at.1 at.2 back)
takes_on c conn facts lawful some q s (inr (inr (inr (inr (j, is, shut))))) =
    let at = shut_at (route_of conn) facts lawful q j shut in
    subst (TakesOn c conn facts) (ap next (sym is)) (shut_on c conn facts q j at.1 at.2 shut)

-- what was sent was asked
sent_asked : (c : ℕ) (conn : Conn) (facts : List Fact) → IsLawful (route_of conn) facts → (q : ℕ) (s : Sighting)
    → IsSent c (length conn.path) facts q s → was_asked facts q ≡ true
sent_asked c conn facts lawful q s (inl asked) = asked.1
sent_asked c conn facts lawful q s (inr (inl (j, is, passed))) = passed_asked (route_of conn) facts lawful q j passed
sent_asked c conn facts lawful q s (inr (inr (inl turned))) =
    passed_asked (route_of conn) facts lawful q (length conn.path) (turned_passed (route_of conn) facts lawful q turned.1)
sent_asked c conn facts lawful q s (inr (inr (inr (inl (j, is, back))))) =
    passed_asked (route_of conn) facts lawful q (length conn.path)
    (turned_passed (route_of conn) facts lawful q (back_turned (route_of conn) facts lawful q j (length conn.path) (omega arith) back))
sent_asked c conn facts lawful q s (inr (inr (inr (inr (j, is, shut))))) =
    at_asked (route_of conn) facts lawful q j ((shut_at (route_of conn) facts lawful q j shut).0)

-- a fact that asks nothing
other_fact : (d c q : ℕ) (f : Fact) (fs : List Fact) → is_ask_of q f ≡ false → was_asked (if d == c then f ∷ fs else fs) q ≡ true → was_asked fs q ≡ true
other_fact d c q f fs none h = elim (cases_Bool (d == c)) [
  | inl same ↦ (let at = rw same at h in elim (or_cases (is_ask_of q f) (was_asked fs q) at) [ inl t ↦ absurd (false≢true (sym none ∙ t)) | inr t ↦ t ])
  | inr differ ↦ rw differ at h
]

only : {X : Type 0} (x y : X) → y ≡ x → Contains (y ∷ []) x
only x y is = (0, omega arith, is)

-- a request that was asked is among those that were
asked_in : (past : Past) (c q : ℕ) → was_asked (facts_of c past) q ≡ true → Contains (asks_of past) (c, q)
asked_in [] c q h = absurd (false≢true h)
asked_in (Capped p u ∷ past) c q h = asked_in past c q h
asked_in (OfConn d (fact.Asked seq floor ask mark) ∷ past) c q h = elim (cases_Bool (d == c)) [
  | inr differ ↦ Contains-append_left (asks_of past) ((d, seq) ∷ []) (c, q) (asked_in past c q (rw differ at h))
  | inl same ↦ (let at = rw same at h in elim (or_cases (seq == q) (was_asked (facts_of c past) q) at) [
    | inr before ↦ Contains-append_left (asks_of past) ((d, seq) ∷ []) (c, q) (asked_in past c q before)
    | inl now ↦ (
        let whose = eqb-true d c same in
        let number = eqb-true seq q now in
        Contains-append_right (asks_of past) ((d, seq) ∷ []) (c, q) (only (c, q) (d, seq) (ap (λ n. (n, seq)) whose ∙ ap (λ n. (c, n)) number)))
  ])
]
asked_in (OfConn d (fact.Started t kept) ∷ past) c q h = asked_in past c q (other_fact d c q (fact.Started t kept) (facts_of c past) refl h)
asked_in (OfConn d fact.Crashed ∷ past) c q h = asked_in past c q (other_fact d c q fact.Crashed (facts_of c past) refl h)
asked_in (OfConn d (fact.Stored kept) ∷ past) c q h = asked_in past c q (other_fact d c q (fact.Stored kept) (facts_of c past) refl h)
asked_in (OfConn d (fact.Heard s granted) ∷ past) c q h = asked_in past c q (other_fact d c q (fact.Heard s granted) (facts_of c past) refl h)
asked_in (OfConn d (fact.Emitted n t r) ∷ past) c q h = asked_in past c q (other_fact d c q (fact.Emitted n t r) (facts_of c past) refl h)
asked_in (OfConn d (fact.Delivered s) ∷ past) c q h = asked_in past c q (other_fact d c q (fact.Delivered s) (facts_of c past) refl h)
asked_in (OfConn d (fact.Passed s j) ∷ past) c q h = asked_in past c q (other_fact d c q (fact.Passed s j) (facts_of c past) refl h)
asked_in (OfConn d (fact.Shut s j) ∷ past) c q h = asked_in past c q (other_fact d c q (fact.Shut s j) (facts_of c past) refl h)
asked_in (OfConn d (fact.Turned s) ∷ past) c q h = asked_in past c q (other_fact d c q (fact.Turned s) (facts_of c past) refl h)
asked_in (OfConn d (fact.Back s j) ∷ past) c q h = asked_in past c q (other_fact d c q (fact.Back s j) (facts_of c past) refl h)
asked_in (OfConn d (fact.Arrived n a r v) ∷ past) c q h = asked_in past c q (other_fact d c q (fact.Arrived n a r v) (facts_of c past) refl h)

-- where the messages of a connection lie
record LiesOn (net : Topology) (past : Past) (c q : ℕ) (s : Sighting) : Type 0 where
  conn : Conn
  known : conn_at net c ≡ Some conn
  sent : IsSent c (length conn.path) (facts_of c past) q s

lies_on : (net : Topology) (past : Past) (c q : ℕ) (s : Sighting) → lying net past c q ≡ Some s → LiesOn net past c q s
lies_on net past c q s h = elim (cases_option (conn_at net c)) [
  | inl unknown ↦ absurd (none_some s (rw unknown at h))
  | inr known ↦ record { conn = known.0; known = known.1; sent = lying_sent c (length known.0.path) (facts_of c past) q s (rw known.1 at h) }
]

messages_have : (net : Topology) (past : Past) (keys : List (ℕ × ℕ)) (c q : ℕ) (s : Sighting) → lying net past c q ≡ Some s → Contains keys (c, q)
    → Contains (messages_at net past keys) s.next
messages_have net past [] c q s h (k, low, is) = absurd (omega (arith, low))
messages_have net past (key ∷ keys) c q s h (zero, low, is) =
    let here : lying net past key.0 key.1 ≡ Some s = ap (λ (p : ℕ × ℕ). lying net past p.0 p.1) is ∙ h in
    Contains-append_left (next_of (lying net past key.0 key.1)) (messages_at net past keys) s.next
    (subst (λ (o : Option Sighting). Contains (next_of o) s.next) (sym here) (only s.next s.next refl))
messages_have net past (key ∷ keys) c q s h (suc k, low, is) =
    Contains-append_right (next_of (lying net past key.0 key.1)) (messages_at net past keys) s.next (messages_have net past keys c q s h (k, omega (arith, low), is))

record IsOf (net : Topology) (past : Past) (e : Event) : Type 0 where
  c : ℕ
  q : ℕ
  s : Sighting
  lies : lying net past c q ≡ Some s
  is : s.next ≡ e

next_is : (net : Topology) (past : Past) (c q : ℕ) (o : Option Sighting) (e : Event) → lying net past c q ≡ o → Contains (next_of o) e → IsOf net past e
next_is net past c q None e h (k, low, is) = absurd (omega (arith, low))
next_is net past c q (Some s) e h (zero, low, is) = record { c = c; q = q; s = s; lies = h; is = is }
next_is net past c q (Some s) e h (suc k, low, is) = absurd (omega (arith, low))

messages_are : (net : Topology) (past : Past) (keys : List (ℕ × ℕ)) (e : Event) → Contains (messages_at net past keys) e → IsOf net past e
messages_are net past [] e (k, low, is) = absurd (omega (arith, low))
messages_are net past (key ∷ keys) e has =
    elim (Contains-append_cases (next_of (lying net past key.0 key.1)) (messages_at net past keys) e has) [
      | inl here ↦ next_is net past key.0 key.1 (lying net past key.0 key.1) e refl here
      | inr later ↦ messages_are net past keys e later
    ]

enabled_at : (net : Topology) (past : Past) → IsWithinRules net → AllLawful net past → (c q : ℕ) (s : Sighting) → lying net past c q ≡ Some s
    → IsEnabled (outcome_of net past s.next)
enabled_at net past rules lawful c q s h =
    let on = lies_on net past c q s h in
    let rule = conn_within net rules c on.conn on.known in
    let some : 1 ≤ length on.conn.path = (let has_hop = rule.has_hop in omega (arith, has_hop)) in
    let takes = takes_on c on.conn (facts_of c past) (lawful_at net past lawful c on.conn on.known) some q s on.sent in
    subst IsEnabled (sym (outcome_of-known net past s.next c on.conn takes.own on.known)) (takes.enabled _ _)

pub messages_possible : (net : Topology) (past : Past) → IsWithinRules net → AllLawful net past → MessagesArePossible net past
messages_possible net past rules lawful = record {
  listed = λ c q s h.
      let on = lies_on net past c q s h in
      messages_have net past (asks_of past) c q s h
      (asked_in past c q (sent_asked c on.conn (facts_of c past) (lawful_at net past lawful c on.conn on.known) q s on.sent));
  enabled = λ e has.
      let of = messages_are net past (asks_of past) e has in
      subst (λ (x : Event). IsEnabled (outcome_of net past x)) of.is (enabled_at net past rules lawful of.c of.q of.s of.lies);
}
