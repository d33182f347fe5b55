-- What Turns change: only whether a yes is sent to the last hop.
use Rattle.std.proofs.Common.{◌≡◌, ◌≢◌, ℕ, ◌+◌, ◌⊎◌, inl, inr, refl, ap, Bool, true, false, List, [], ◌∷◌, ◌++◌, length, ◌∙◌, sym, subst, Option, None, Some}
use Rattle.std.specs.Prelude.{◌==◌, ◌||◌, ◌-◌, not, if◌then◌else◌, nat_lt}
use Rattle.std.proofs.lemmas.Bool.{false≢true, cond-false, cond-true, cond_both, cases_Bool, cases_eq, eq-eqb, ne_eqb, or_left}
use Rattle.std.proofs.lemmas.List.{append-nil}
use Rattle.abt_keep.specs.declared.plan.StorePlan.{StorePlan}
use Rattle.abt_keep.specs.declared.plan.StorePlan.TheVariants.{Works, FailsBefore, FailsAfter}
use Rattle.abt_ledger.specs.Capacity.{capacity_fault, capacity_answer}
use Rattle.abt_net.specs.declared.conn.Conn.{Conn}
use Rattle.abt_net.specs.Topology.{Topology, conn_at}
use Rattle.abt_facts.specs.declared.fact.Fact.{Fact}
use Rattle.abt_facts.specs.declared.fact.Fact.TheVariants.{Turned as FactTurned}
use Rattle.abt_facts.specs.Source.{SourceState, Down, Idle, Asking, state_of}
use Rattle.abt_facts.specs.Sent.{answer_is_at, was_turned, was_back}
use Rattle.abt_model.specs.declared.event.Event.{Event}
use Rattle.abt_model.specs.declared.event.Event.TheVariants.{Start, Ask, Again, Turn, Answer, Capacity}
use Rattle.abt_model.specs.declared.net_fact.NetFact.TheVariants.{OfConn}
use Rattle.abt_model.specs.declared.outcome.Cause.TheVariants.{NotSent, Unknown}
use Rattle.abt_model.specs.declared.outcome.Outcome.{Outcome}
use Rattle.abt_model.specs.declared.outcome.Outcome.TheVariants.{Answered, Turned, NotEnabled}
use Rattle.abt_model.specs.Answers.{start_answer, ask_answer, again_answer, if_up, is_hop, answer_by, capped}
use Rattle.abt_model.specs.Decision.{answer_decision}
use Rattle.abt_cell.specs.Message.{answer_to}
use Rattle.abt_source.specs.SourceFacts.{request_of}
use Rattle.abt_model.specs.Outcomes.{conn_of, port_of, outcome_at, outcome_alone, outcome_by, outcome_of, facts_added, after_event}
use Rattle.abt_model.specs.Past.{Past, facts_of, with_facts}
use Rattle.abt_model.specs.Reserved.{held_on, reserved_on, capacity_of}
use Rattle.abt_model.proofs.Sums.{numbered_same}
use Rattle.abt_journal.specs.declared.input.PortReply.{PortReply}
use Rattle.abt_weave.specs.Projections.{Visit, is_enabled, reply_of, past_of, visit_by, step_at, steps_on, entries_on}
use Rattle.abt_weave.specs.Stuck.{IsTurn, AreTurns}

-- an answer, by whether it was sent
abbrev pub answered_if : Bool → Conn → List Fact → (hop seq : ℕ) → Bool → Outcome
answered_if sent conn facts hop seq granted =
    if not (is_hop (length conn.path) hop) then NotEnabled Unknown
    else (if not sent then NotEnabled NotSent
    else Answered (answer_decision facts hop (answer_to (request_of conn.vc facts seq) granted)))

-- the outcome, where an answer was sent or not as is said
abbrev pub answer_if : Bool → Conn → (reserved capacity : ℕ) → List Fact → Event → Outcome
answer_if sent conn reserved capacity facts (Answer c hop seq granted) = answered_if sent conn facts hop seq granted
answer_if sent conn reserved capacity facts other = answer_by conn reserved capacity facts other

abbrev pub was_sent : Conn → List Fact → Event → Bool
was_sent conn facts (Answer c hop seq granted) = answer_is_at (length conn.path) facts seq hop granted
was_sent conn facts other = true

by_sent : (conn : Conn) (reserved capacity : ℕ) (facts : List Fact) (event : Event) → answer_by conn reserved capacity facts event ≡ answer_if (was_sent conn facts event) conn reserved capacity facts event
by_sent conn reserved capacity facts (Answer c hop seq granted) = refl
by_sent conn reserved capacity facts other = refl

start_turned : (t : ℕ) (facts : List Fact) (now : ℕ) (state : SourceState) → start_answer state (FactTurned t ∷ facts) now ≡ start_answer state facts now
start_turned t facts now Down = refl
start_turned t facts now Idle = refl
start_turned t facts now (Asking s) = refl

ask_turned : (conn : Conn) (t : ℕ) (facts : List Fact) (rate : ℕ) (plan : StorePlan) → ask_answer conn.vc (FactTurned t ∷ facts) rate plan ≡ ask_answer conn.vc facts rate plan
ask_turned conn t facts rate Works = refl
ask_turned conn t facts rate FailsBefore = refl
ask_turned conn t facts rate FailsAfter = refl

again_turned : (conn : Conn) (t : ℕ) (facts : List Fact) (state : SourceState) → again_answer conn.vc state (FactTurned t ∷ facts) ≡ again_answer conn.vc state facts
again_turned conn t facts Down = refl
again_turned conn t facts Idle = refl
again_turned conn t facts (Asking s) = refl

-- a Turn leaves every outcome, but for whether an answer was sent
answer_if-turned : (sent : Bool) (conn : Conn) (reserved capacity t : ℕ) (facts : List Fact) (event : Event) →
    answer_if sent conn reserved capacity (FactTurned t ∷ facts) event ≡ answer_if sent conn reserved capacity facts event
answer_if-turned sent conn reserved capacity t facts (Start c now) = start_turned t facts now (state_of facts)
answer_if-turned sent conn reserved capacity t facts (Ask c rate plan) = ap (if_up (state_of facts)) (ask_turned conn t facts rate plan)
answer_if-turned sent conn reserved capacity t facts (Again c) = again_turned conn t facts (state_of facts)
answer_if-turned sent conn reserved capacity t facts other = refl

-- the past with the fact of a Turn
abbrev pub turned : (c t : ℕ) → Past → Past
turned c t past = OfConn c (FactTurned t) ∷ past

-- what doesn't see Turns
blind : {A : Type 0} → (view : List Fact → A) → ((t : ℕ) (facts : List Fact) → view (FactTurned t ∷ facts) ≡ view facts) →
    (d c t : ℕ) (past : Past) → view (facts_of d (turned c t past)) ≡ view (facts_of d past)
blind view sees d c t past =
    cond_both (c == d) (FactTurned t ∷ facts_of d past) (facts_of d past) (λ (facts : List Fact). view facts ≡ view (facts_of d past))
    (λ e. sees t (facts_of d past)) (λ e. refl)

reserved_turned : (net : Topology) (c t : ℕ) (past : Past) (p : ℕ) → reserved_on net (turned c t past) p ≡ reserved_on net past p
reserved_turned net c t past p =
    numbered_same (λ numbered. held_on (facts_of numbered.0 past) numbered.1.path p) (λ numbered. held_on (facts_of numbered.0 (turned c t past)) numbered.1.path p) 0 net.conns
    (λ d conn low. blind (λ (facts : List Fact). held_on facts conn.path p) (λ s facts. refl) d c t past)

-- the outcome after a past, where an answer was sent or not as is said
abbrev pub outcome_at_if : Bool → Topology → Past → (d : ℕ) → Option Conn → Event → Outcome
outcome_at_if sent net past d None event = NotEnabled Unknown
outcome_at_if sent net past d (Some conn) event =
    let port = port_of conn.path event in
    answer_if sent conn (reserved_on net past port) (capacity_of net past port) (facts_of d past) event

abbrev pub outcome_by_if : Bool → Topology → Past → Event → Option ℕ → Outcome
outcome_by_if sent net past event None = outcome_alone net past event
outcome_by_if sent net past event (Some d) = outcome_at_if sent net past d (conn_at net d) event

abbrev pub outcome_if : Bool → Topology → Past → Event → Outcome
outcome_if sent net past event = outcome_by_if sent net past event (conn_of event)

abbrev pub sent_at : Past → (d : ℕ) → Option Conn → Event → Bool
sent_at past d None event = true
sent_at past d (Some conn) event = was_sent conn (facts_of d past) event

abbrev pub sent_by : Topology → Past → Event → Option ℕ → Bool
sent_by net past event None = true
sent_by net past event (Some d) = sent_at past d (conn_at net d) event

abbrev pub is_sent : Topology → Past → Event → Bool
is_sent net past event = sent_by net past event (conn_of event)

outcome_at-if : (net : Topology) (past : Past) (event : Event) (d : ℕ) (o : Option Conn) → outcome_at net past d o event ≡ outcome_at_if (sent_at past d o event) net past d o event
outcome_at-if net past event d None = refl
outcome_at-if net past event d (Some conn) = by_sent conn (reserved_on net past (port_of conn.path event)) (capacity_of net past (port_of conn.path event)) (facts_of d past) event

outcome_by-if : (net : Topology) (past : Past) (event : Event) (o : Option ℕ) → outcome_by net past event o ≡ outcome_by_if (sent_by net past event o) net past event o
outcome_by-if net past event None = refl
outcome_by-if net past event (Some d) = outcome_at-if net past event d (conn_at net d)

pub outcome-if : (net : Topology) (past : Past) (event : Event) → outcome_of net past event ≡ outcome_if (is_sent net past event) net past event
outcome-if net past event = outcome_by-if net past event (conn_of event)

outcome_at_if-turned : (sent : Bool) (net : Topology) (c t : ℕ) (past : Past) (event : Event) (d : ℕ) (o : Option Conn) →
    outcome_at_if sent net (turned c t past) d o event ≡ outcome_at_if sent net past d o event
outcome_at_if-turned sent net c t past event d None = refl
outcome_at_if-turned sent net c t past event d (Some conn) =
    let port = port_of conn.path event in
    ap (λ (r : ℕ). answer_if sent conn r (capacity_of net past port) (facts_of d (turned c t past)) event) (reserved_turned net c t past port)
    ∙ blind (λ (facts : List Fact). answer_if sent conn (reserved_on net past port) (capacity_of net past port) facts event)
    (λ s facts. answer_if-turned sent conn (reserved_on net past port) (capacity_of net past port) s facts event) d c t past

alone_turned : (net : Topology) (c t : ℕ) (past : Past) (event : Event) → outcome_alone net (turned c t past) event ≡ outcome_alone net past event
alone_turned net c t past (Capacity p u) =
    ap (λ (r : ℕ). if nat_lt p (length net.capacities) then capped (capacity_answer (capacity_fault r u)) else NotEnabled Unknown) (reserved_turned net c t past p)
alone_turned net c t past other = refl

outcome_by_if-turned : (sent : Bool) (net : Topology) (c t : ℕ) (past : Past) (event : Event) (o : Option ℕ) → outcome_by_if sent net (turned c t past) event o ≡ outcome_by_if sent net past event o
outcome_by_if-turned sent net c t past event None = alone_turned net c t past event
outcome_by_if-turned sent net c t past event (Some d) = outcome_at_if-turned sent net c t past event d (conn_at net d)

pub outcome_if-turned : (sent : Bool) (net : Topology) (c t : ℕ) (past : Past) (event : Event) → outcome_if sent net (turned c t past) event ≡ outcome_if sent net past event
outcome_if-turned sent net c t past event = outcome_by_if-turned sent net c t past event (conn_of event)

some_is : (e d : ℕ) → Some e ≡ Some d → e ≡ d
some_is e d same = cc

-- the event is the yes at the last hop that this Turn makes
pub record IsYesOf (net : Topology) (c t : ℕ) (event : Event) : Type 0 where
  pub conn : Conn
  pub known : conn_at net c ≡ Some conn
  pub is : event ≡ Answer c (length conn.path) t true

yes_turned : (conn : Conn) (facts : List Fact) (t hop seq : ℕ) →
    (answer_is_at (length conn.path) (FactTurned t ∷ facts) seq hop true ≡ answer_is_at (length conn.path) facts seq hop true) ⊎ ((hop ≡ length conn.path) × (t ≡ seq))
yes_turned conn facts t hop seq = elim (cases_eq t seq) [
  | inl own ↦ (elim (cases_eq hop (length conn.path)) [
    | inl last ↦ inr (last, own)
    | inr earlier ↦ inl (cond-false _ _ _ (ne_eqb hop (length conn.path) earlier) ∙ sym (cond-false _ _ _ (ne_eqb hop (length conn.path) earlier)))
  ])
  | inr other ↦ inl (ap (λ (b : Bool). if hop == length conn.path then (b || was_turned facts seq) else was_back facts seq (hop + 1)) (ne_eqb t seq other))
]

answer_turned : (net : Topology) (c t d hop seq : ℕ) (past : Past) (conn : Conn) → conn_at net d ≡ Some conn →
    (answer_is_at (length conn.path) (facts_of d (turned c t past)) seq hop true ≡ answer_is_at (length conn.path) (facts_of d past) seq hop true) ⊎ IsYesOf net c t (Answer d hop seq true)
answer_turned net c t d hop seq past conn known = elim (cases_eq c d) [
  | inl same ↦ (
      let facts : facts_of d (turned c t past) ≡ FactTurned t ∷ facts_of d past = cond-true _ _ _ (eq-eqb c d same) in
      elim (yes_turned conn (facts_of d past) t hop seq) [
        | inl alike ↦ inl (ap (λ (l : List Fact). answer_is_at (length conn.path) l seq hop true) facts ∙ alike)
        | inr own ↦ inr (record {
          conn = conn;
          known = ap (conn_at net) same ∙ known;
          is = ap (λ e. Answer e hop seq true) (sym same) ∙ ap (λ j. Answer c j seq true) own.0 ∙ ap (λ s. Answer c (length conn.path) s true) (sym own.1);
        })
      ])
  | inr differ ↦ inl (ap (λ (l : List Fact). answer_is_at (length conn.path) l seq hop true) (cond-false _ _ _ (ne_eqb c d differ)))
]

sent_turned : (net : Topology) (c t : ℕ) (past : Past) (event : Event) (d : ℕ) (o : Option Conn) → conn_of event ≡ Some d → conn_at net d ≡ o →
    (sent_at (turned c t past) d o event ≡ sent_at past d o event) ⊎ IsYesOf net c t event
sent_turned net c t past event d None own known = inl refl
sent_turned net c t past (Answer e hop seq true) d (Some conn) own known =
    let same : e ≡ d = some_is e d own in
    elim (answer_turned net c t d hop seq past conn known) [ inl alike ↦ inl alike | inr its ↦ inr (subst (λ n. IsYesOf net c t (Answer n hop seq true)) (sym same) its) ]
sent_turned net c t past (Answer e hop seq false) d (Some conn) own known = inl (blind (λ (facts : List Fact). answer_is_at (length conn.path) facts seq hop false) (λ s facts. refl) d c t past)
sent_turned net c t past other d (Some conn) own known = inl refl

sent_by_turned : (net : Topology) (c t : ℕ) (past : Past) (event : Event) (o : Option ℕ) → conn_of event ≡ o → (sent_by net (turned c t past) event o ≡ sent_by net past event o) ⊎ IsYesOf net c t event
sent_by_turned net c t past event None own = inl refl
sent_by_turned net c t past event (Some d) own = sent_turned net c t past event d (conn_at net d) own refl

-- whether an answer was sent stays after a Turn, or it is its yes
is_sent-turned : (net : Topology) (c t : ℕ) (past : Past) (event : Event) → (is_sent net (turned c t past) event ≡ is_sent net past event) ⊎ IsYesOf net c t event
is_sent-turned net c t past event = sent_by_turned net c t past event (conn_of event) refl

-- the yes of a Turn was sent after it
yes_sent : (net : Topology) (c t : ℕ) (past : Past) (event : Event) → IsYesOf net c t event → is_sent net (turned c t past) event ≡ true
yes_sent net c t past event own =
    let hops = length own.conn.path in
    let facts : facts_of c (turned c t past) ≡ FactTurned t ∷ facts_of c past = cond-true _ _ _ (eq-eqb c c refl) in
    ap (λ e. is_sent net (turned c t past) e) own.is
    ∙ ap (λ (o : Option Conn). sent_at (turned c t past) c o (Answer c hops t true)) own.known
    ∙ ap (λ (l : List Fact). answer_is_at hops l t hops true) facts
    ∙ cond-true _ _ _ (eq-eqb hops hops refl)
    ∙ or_left _ _ (eq-eqb t t refl)

pub turned-is : (net : Topology) (past : Past) (c s : ℕ) → outcome_of net past (Turn c s) ≡ Turned → after_event net past (Turn c s) ≡ turned c s past
turned-is net past c s happens = ap (λ (o : Outcome). with_facts c (facts_added (facts_of c past) (Turn c s) o) past) happens

pub turn-past : (net : Topology) (earlier : List Event) (event : Event) → (turn : IsTurn net earlier event) → past_of net (event ∷ earlier) ≡ turned turn.conn turn.seq (past_of net earlier)
turn-past net earlier event turn =
    ap (after_event net (past_of net earlier)) turn.is
    ∙ turned-is net (past_of net earlier) turn.conn turn.seq (ap (outcome_of net (past_of net earlier)) (sym turn.is) ∙ turn.happens)

-- the law of Turns: after any of them the outcome is as before, but for whether an answer was sent
pub outcome_if-turns : (sent : Bool) (net : Topology) (earlier turns : List Event) → AreTurns net earlier turns → (event : Event) →
    outcome_if sent net (past_of net (turns ++ earlier)) event ≡ outcome_if sent net (past_of net earlier) event
outcome_if-turns sent net earlier [] all event = refl
outcome_if-turns sent net earlier (turn ∷ turns) all event =
    ap (λ (past : Past). outcome_if sent net past event) (turn-past net (turns ++ earlier) turn all.0)
    ∙ outcome_if-turned sent net all.0.conn all.0.seq (past_of net (turns ++ earlier)) event
    ∙ outcome_if-turns sent net earlier turns all.1 event

turn_sent : (past : Past) (c s : ℕ) (o : Option Conn) → sent_at past c o (Turn c s) ≡ true
turn_sent past c s None = refl
turn_sent past c s (Some conn) = refl

turn_same : (net : Topology) (earlier turns : List Event) → AreTurns net earlier turns → (c s : ℕ) → outcome_of net (past_of net (turns ++ earlier)) (Turn c s) ≡ outcome_of net (past_of net earlier) (Turn c s)
turn_same net earlier turns all c s =
    let a = outcome-if net (past_of net (turns ++ earlier)) (Turn c s) in
    let b = outcome-if net (past_of net earlier) (Turn c s) in
    a ∙ ap (λ (x : Bool). outcome_if x net (past_of net (turns ++ earlier)) (Turn c s)) (turn_sent (past_of net (turns ++ earlier)) c s (conn_at net c))
    ∙ outcome_if-turns true net earlier turns all (Turn c s)
    ∙ sym (ap (λ (x : Bool). outcome_if x net (past_of net earlier) (Turn c s)) (turn_sent (past_of net earlier) c s (conn_at net c)))
    ∙ sym b

-- the event is a yes at the last hop that its own Turn can make at once
pub record HasOwnTurn (net : Topology) (earlier : List Event) (event : Event) : Type 0 where
  pub conn : ℕ
  pub seq : ℕ
  pub its : IsYesOf net conn seq event
  pub happens : outcome_of net (past_of net earlier) (Turn conn seq) ≡ Turned

sent_turns : (net : Topology) (earlier turns : List Event) → AreTurns net earlier turns → (event : Event) →
    (is_sent net (past_of net (turns ++ earlier)) event ≡ is_sent net (past_of net earlier) event) ⊎ (HasOwnTurn net earlier event × (is_sent net (past_of net (turns ++ earlier)) event ≡ true))
sent_turns net earlier [] all event = inl refl
sent_turns net earlier (turn ∷ turns) all event =
    let now = ap (λ (past : Past). is_sent net past event) (turn-past net (turns ++ earlier) turn all.0) in
    elim (is_sent-turned net all.0.conn all.0.seq (past_of net (turns ++ earlier)) event) [
      | inl same ↦ (elim (sent_turns net earlier turns all.1 event) [
        | inl alike ↦ inl (now ∙ same ∙ alike)
        | inr own ↦ inr (own.0, now ∙ same ∙ own.1)
      ])
      | inr its ↦ inr (
        record {
          conn = all.0.conn;
          seq = all.0.seq;
          its = its;
          happens = sym (turn_same net earlier turns all.1 all.0.conn all.0.seq) ∙ ap (outcome_of net (past_of net (turns ++ earlier))) (sym all.0.is) ∙ all.0.happens;
        },
        now ∙ yes_sent net all.0.conn all.0.seq (past_of net (turns ++ earlier)) event its,
      )
    ]

-- what a yes answers right after its own Turn
own_after : (net : Topology) (earlier : List Event) (event : Event) → (own : HasOwnTurn net earlier event) →
    outcome_of net (past_of net (Turn own.conn own.seq ∷ earlier)) event ≡ outcome_if true net (past_of net earlier) event
own_after net earlier event own =
    let past = past_of net earlier in
    ap (λ (w : Past). outcome_of net w event) (turned-is net past own.conn own.seq own.happens)
    ∙ outcome-if net (turned own.conn own.seq past) event
    ∙ ap (λ (x : Bool). outcome_if x net (turned own.conn own.seq past) event) (yes_sent net own.conn own.seq past event own.its)
    ∙ outcome_if-turned true net own.conn own.seq past event

-- After Turns an event answers what it does at once, or right after its own Turn.
pub record AfterOwn (net : Topology) (earlier turns : List Event) (event : Event) : Type 0 where
  pub own : HasOwnTurn net earlier event
  pub same : outcome_of net (past_of net (turns ++ earlier)) event ≡ outcome_of net (past_of net (Turn own.conn own.seq ∷ earlier)) event

pub outcome_turns : (net : Topology) (earlier turns : List Event) → AreTurns net earlier turns → (event : Event) →
    (outcome_of net (past_of net (turns ++ earlier)) event ≡ outcome_of net (past_of net earlier) event) ⊎ AfterOwn net earlier turns event
outcome_turns net earlier turns all event =
    let past = past_of net earlier in
    let after = past_of net (turns ++ earlier) in
    let law : (x : Bool) → is_sent net after event ≡ x → outcome_of net after event ≡ outcome_if x net past event
    = λ x e. outcome-if net after event ∙ ap (λ (y : Bool). outcome_if y net after event) e ∙ outcome_if-turns x net earlier turns all event in
    elim (sent_turns net earlier turns all event) [
      | inl alike ↦ inl (law (is_sent net past event) alike ∙ sym (outcome-if net past event))
      | inr own ↦ inr (record { own = own.0; same = law true own.1 ∙ sym (own_after net earlier event own.0) })
    ]

turn_visit : (facts : List Fact) (c s : ℕ) (reply : Option PortReply) (o : Option Conn) → visit_by (Turn c s) reply facts o ≡ None
turn_visit facts c s reply None = refl
turn_visit facts c s None (Some conn) = refl
turn_visit facts c s (Some reply) (Some conn) = refl

-- a Turn stands in no journal
pub steps_turn : (net : Topology) (earlier : List Event) (c s p : ℕ) → steps_on net p (Turn c s ∷ earlier) ≡ steps_on net p earlier
steps_turn net earlier c s p =
    let past = past_of net earlier in
    ap (λ (o : Option Visit). steps_on net p earlier ++ step_at p (length (steps_on net p earlier)) o) (turn_visit (facts_of c past) c s (reply_of (outcome_of net past (Turn c s))) (conn_at net c))
    ∙ append-nil (steps_on net p earlier)

pub entries_turn : (net : Topology) (earlier : List Event) (c s d : ℕ) → entries_on net d (Turn c s ∷ earlier) ≡ entries_on net d earlier
entries_turn net earlier c s d = append-nil (entries_on net d earlier)

pub steps_turns : (net : Topology) (earlier turns : List Event) → AreTurns net earlier turns → (p : ℕ) → steps_on net p (turns ++ earlier) ≡ steps_on net p earlier
steps_turns net earlier [] all p = refl
steps_turns net earlier (turn ∷ turns) all p =
    ap (λ e. steps_on net p (e ∷ turns ++ earlier)) all.0.is
    ∙ steps_turn net (turns ++ earlier) all.0.conn all.0.seq p
    ∙ steps_turns net earlier turns all.1 p

pub entries_turns : (net : Topology) (earlier turns : List Event) → AreTurns net earlier turns → (c : ℕ) → entries_on net c (turns ++ earlier) ≡ entries_on net c earlier
entries_turns net earlier [] all c = refl
entries_turns net earlier (turn ∷ turns) all c =
    ap (λ e. entries_on net c (e ∷ turns ++ earlier)) all.0.is
    ∙ entries_turn net (turns ++ earlier) all.0.conn all.0.seq c
    ∙ entries_turns net earlier turns all.1 c

unsent_off : (conn : Conn) (facts : List Fact) (hop seq : ℕ) (granted : Bool) → is_enabled (answered_if false conn facts hop seq granted) ≡ false
unsent_off conn facts hop seq granted =
    cond_both (not (is_hop (length conn.path) hop)) (NotEnabled Unknown) (NotEnabled NotSent) (λ (o : Outcome). is_enabled o ≡ false) (λ e. refl) (λ e. refl)

-- a yes that can come already answers the same after its Turn
pub own_same : (net : Topology) (earlier : List Event) (event : Event) → (own : HasOwnTurn net earlier event) → is_enabled (outcome_of net (past_of net earlier) event) ≡ true →
    outcome_of net (past_of net (Turn own.conn own.seq ∷ earlier)) event ≡ outcome_of net (past_of net earlier) event
own_same net earlier event own enabled =
    let past = past_of net earlier in
    let sent : is_sent net past event ≡ true = elim (cases_Bool (is_sent net past event)) [
      | inl yes_it_was ↦ yes_it_was
      | inr it_was_not ↦ (
          let off : is_enabled (outcome_if false net past event) ≡ false =
          ap (λ e. is_enabled (outcome_if false net past e)) own.its.is
          ∙ ap (λ (o : Option Conn). is_enabled (outcome_at_if false net past own.conn o (Answer own.conn (length own.its.conn.path) own.seq true))) own.its.known
          ∙ unsent_off own.its.conn (facts_of own.conn past) (length own.its.conn.path) own.seq true in
          absurd (false≢true (sym off ∙ sym (ap is_enabled (outcome-if net past event ∙ ap (λ (x : Bool). outcome_if x net past event) it_was_not)) ∙ enabled)))
    ] in
    own_after net earlier event own
    ∙ sym (outcome-if net past event ∙ ap (λ (x : Bool). outcome_if x net past event) sent)

-- a yes answers something right after its Turn
pub own_enabled : (net : Topology) (earlier : List Event) (event : Event) → (own : HasOwnTurn net earlier event) → is_hop (length own.its.conn.path) (length own.its.conn.path) ≡ true →
    is_enabled (outcome_of net (past_of net (Turn own.conn own.seq ∷ earlier)) event) ≡ true
own_enabled net earlier event own within =
    let past = past_of net earlier in
    let hops = length own.its.conn.path in
    ap is_enabled (own_after net earlier event own)
    ∙ ap (λ e. is_enabled (outcome_if true net past e)) own.its.is
    ∙ ap (λ (o : Option Conn). is_enabled (outcome_at_if true net past own.conn o (Answer own.conn hops own.seq true))) own.its.known
    ∙ ap is_enabled (cond-false _ _ _ (ap not within))
