-- No message is dropped since ports and sources disagree.
use Rattle.std.proofs.Common.{◌≡◌, ℕ, ◌+◌, ◌-◌, ◌≤◌, ◌<◌, inl, inr, refl, ap, Bool, true, false, List, length, ◌∙◌, sym, arith}
use Rattle.std.specs.Prelude.{◌&&◌, ◌==◌, not, nat_lt, Option, None, Some}
use Rattle.std.proofs.lemmas.Bool.{false≢true, ne_eqb, false_from_ne_true, and_from, and_parts, cond_both, not-false}
use Rattle.abt_facts.specs.declared.fact.Fact.{Fact}
use Rattle.abt_model.specs.declared.event.Event.{Event}
use Rattle.abt_model.specs.declared.event.Event.TheVariants.{Start, Ask, Again, Crash, Emit, Arrive, Request, Turn, Answer, Told, Capacity}
use Rattle.abt_model.specs.declared.outcome.Outcome.{Outcome}
use Rattle.abt_net.specs.declared.conn.Conn.{Conn}
use Rattle.abt_keep.specs.declared.plan.StorePlan.{StorePlan}
use Rattle.abt_keep.specs.declared.plan.StorePlan.TheVariants.{Works, FailsBefore, FailsAfter}
use Rattle.abt_node.specs.declared.reply.Onward.{Onward}
use Rattle.abt_node.specs.declared.reply.Onward.TheVariants as onward
use Rattle.abt_node.specs.declared.reply.Back.{Back as Returned}
use Rattle.abt_node.specs.declared.reply.Back.TheVariants as back
use Rattle.abt_node.specs.declared.reply.DropCause.TheVariants.{UnknownVc, Stale, Conflict, FloorAbove}
use Rattle.abt_node.specs.Reservation.{Reservation, held_by}
use Rattle.abt_node.specs.Rule.{IsRepeat, IsDecision, IsAnswered}
use Rattle.abt_node.proofs.RuleLemmas.{decision_of-IsDecision, answer_of-IsAnswered}
use Rattle.abt_model.specs.declared.outcome.Outcome.TheVariants.{Requested, Answered}
use Rattle.abt_facts.specs.Requests.{floor_of, ask_of}
use Rattle.abt_facts.specs.Source.{SourceState, Down, Idle, Asking, state_of, rate_of, last_of, clock_of, next_of, writes}
use Rattle.abt_facts.specs.Sent.{was_passed, was_shut, was_turned, request_is_at, answer_is_at, answer_is_home, request_is_through}
use Rattle.abt_facts.specs.Hop.{held_of}
use Rattle.abt_facts.specs.Cells.{emitted_of, last_arrival_of, fence_of, is_in_time}
use Rattle.abt_cell.specs.Message.{Reply, Terms, answer_to}
use Rattle.abt_net.specs.Topology.{Topology, conn_at}
use Rattle.abt_cell.specs.Channel.{Channel}
use Rattle.abt_ledger.specs.Capacity.{capacity_fault, capacity_answer}
use Rattle.abt_ledger.specs.declared.fault.CapacityFault.{CapacityFault}
use Rattle.abt_model.specs.Past.{Past, facts_of}
use Rattle.abt_model.specs.Reserved.{reserved_on}
use Rattle.abt_source.specs.SourceFacts.{request_of}
use Rattle.abt_rate.specs.Limits.{emit_max, number_max, start_max}
use Rattle.abt_model.specs.Answers.{if_up, start_answer, next_request, kept_answer, again_answer, emit_answer, arrive_answer, is_hop, answer_by, capped}
use Rattle.abt_model.specs.Outcomes.{conn_of, outcome_alone, outcome_by}
use Rattle.abt_model.specs.Promises.{disputes, NeverDisputes}
use Rattle.abt_model.proofs.Chain.{passed_all, passed_asked, at_asked, asked_last, shut_next_passed, turned_passed, back_turned, turned_open}
use Rattle.abt_model.proofs.Worlds.{cases_option, outcome_of-known, outcome_of-unknown, AllLawful, lawful_at}
use Rattle.abt_model.proofs.Decisions.{held_by-held, decided, decided_back}
use Rattle.abt_model.specs.Decision.{reservation_at}
use Rattle.abt_model.proofs.Lawful.{Route, route_of, IsYesAtHop, IsLawful}
use Rattle.abt_model.proofs.Steps.{is_hop_tells, request_at_tells, yes_at_tells}
use Rattle.abt_model.proofs.Cases.{passed_newest}
use Rattle.abt_model.proofs.Backed.{floor_held}

-- the rule drops no request for disagreement whose number is of one request, and whose floor is held
agrees_by : (capacity others : ℕ) (r : Reservation) (q : Terms) (o : Onward) → IsDecision capacity others r q o →
    (q.seq ≡ r.newest → IsRepeat r q) → (r.newest < q.seq → q.floor ≤ held_by r) → disputes (Requested o) ≡ false
agrees_by capacity others r q onward.Pass is same low = refl
agrees_by capacity others r q (onward.Refuse answer) is same low = refl
agrees_by capacity others r q (onward.Drop UnknownVc) is same low = absurd is
agrees_by capacity others r q (onward.Drop Stale) is same low = refl
agrees_by capacity others r q (onward.Drop Conflict) is same low = absurd (is.1 (same is.0))
agrees_by capacity others r q (onward.Drop FloorAbove) is same low = absurd (let held = low is.0 in omega (arith, is.1))

-- nor an answer to the newest request or to an older one
answer_agrees_by : (r : Reservation) (a : Reply) (o : Returned) → IsAnswered r a o → a.terms.seq ≤ r.newest →
    (a.terms.seq ≡ r.newest → IsRepeat r a.terms × (a.granted ≡ true → r.is_open ≡ true)) → disputes (Answered o) ≡ false
answer_agrees_by r a back.Pass is low same = refl
answer_agrees_by r a (back.Drop UnknownVc) is low same = absurd is
answer_agrees_by r a (back.Drop Stale) is low same = refl
answer_agrees_by r a (back.Drop Conflict) is low same =
    let stands = same (omega (arith, is.0)) in
    elim is.1 [ inl other ↦ absurd (other stands.0) | inr closed ↦ absurd (false≢true (sym closed.1 ∙ stands.1 closed.0)) ]
answer_agrees_by r a (back.Drop FloorAbove) is low same = absurd is

-- a yes that was sent passed each hop, and is shut nowhere
pub yes_sent : (l : Route) (fs : List Fact) → IsLawful l fs → (s j : ℕ) → IsYesAtHop l.hops fs s j → was_turned fs s ≡ true
yes_sent l fs lawful s j at = elim at [ inl t ↦ t.1 | inr b ↦ back_turned l fs lawful s (j + 1) l.hops (omega arith) b ]

pub answer_passed : (l : Route) (fs : List Fact) → IsLawful l fs → (s j : ℕ) (granted : Bool) → (1 ≤ j) × (j ≤ l.hops) → answer_is_at l.hops fs s j granted ≡ true → (was_passed fs s j ≡ true) × ((granted && was_shut fs s j) ≡ false)
answer_passed l fs lawful s j true hop at =
    let t = yes_sent l fs lawful s j (yes_at_tells l.hops fs s j at) in
    (passed_all l fs lawful s l.hops j (l.hops - j) (turned_passed l fs lawful s t) hop.0 (omega arith), false_from_ne_true _ (turned_open l fs lawful s j t))
answer_passed l fs lawful s j false hop at = (shut_next_passed l fs lawful s j hop.0 (and_parts _ _ at).1, refl)

request_agrees : (conn : Conn) (reserved capacity : ℕ) (fs : List Fact) → IsLawful (route_of conn) fs → (c j s : ℕ) → disputes (answer_by conn reserved capacity fs (Request c j s)) ≡ false
request_agrees conn reserved capacity fs lawful c j s =
    let l = route_of conn in
    let P : Outcome → Type 0 = λ o. disputes o ≡ false in
    cond_both (not (is_hop (length conn.path) j)) _ _ P (λ e. refl)
    (λ e. cond_both (not (request_is_at fs s j)) _ _ P (λ e2. refl)
    (λ e2. (
    let hop = is_hop_tells (length conn.path) j (not-false _ e) in
    let a = at_asked (route_of conn) fs lawful s j (request_at_tells fs s j hop.0 (not-false _ e2)) in
    agrees_by capacity (reserved - held_of fs j) (reservation_at fs j) (request_of conn.vc fs s) (decided conn.vc fs reserved capacity j s)
    (decision_of-IsDecision capacity (reserved - held_of fs j) (reservation_at fs j) (request_of conn.vc fs s))
    (λ same. record { number = same; floor = ap (floor_of fs) same; ask = ap (ask_of fs) same })
    (λ above. omega (arith, floor_held (route_of conn) fs lawful s j a above hop.0 hop.1, held_by-held (route_of conn) fs lawful j)))))

answer_agrees : (conn : Conn) (reserved capacity : ℕ) (fs : List Fact) → IsLawful (route_of conn) fs → (c j s : ℕ) (granted : Bool) → disputes (answer_by conn reserved capacity fs (Answer c j s granted)) ≡ false
answer_agrees conn reserved capacity fs lawful c j s granted =
    let P : Outcome → Type 0 = λ o. disputes o ≡ false in
    cond_both (not (is_hop (length conn.path) j)) _ _ P (λ e. refl)
    (λ e. cond_both (not (answer_is_at (length conn.path) fs s j granted)) _ _ P (λ e2. refl)
    (λ e2. (
    let hop = is_hop_tells (length conn.path) j (not-false _ e) in
    let p = answer_passed (route_of conn) fs lawful s j granted hop (not-false _ e2) in
    let number = (asked_last (route_of conn) fs lawful).1 s (passed_asked (route_of conn) fs lawful s j p.0) in
    answer_agrees_by (reservation_at fs j) (answer_to (request_of conn.vc fs s) granted) (decided_back conn.vc fs j s granted)
    (answer_of-IsAnswered (reservation_at fs j) (answer_to (request_of conn.vc fs s) granted)) (passed_newest s j fs p.0)
    (λ same. (
      record { number = same; floor = ap (floor_of fs) same; ask = ap (ask_of fs) same },
      λ yes. (
          let fresh : was_shut fs s j ≡ false = sym (ap (λ (b : Bool). b && was_shut fs s j) yes) ∙ p.1 in
          and_from _ _ (ap not (ne_eqb _ _ (λ z. omega (arith, number.0, same)))) (ap not (ap (λ q. was_shut fs q j) (sym same) ∙ fresh))),
    )))))

up_agrees : (st : SourceState) (o : Outcome) → disputes o ≡ false → disputes (if_up st o) ≡ false
up_agrees Down o e = refl
up_agrees Idle o e = e
up_agrees (Asking s) o e = e

kept_agrees : (writes : Bool) (plan : StorePlan) (request : Terms) → disputes (kept_answer writes plan request) ≡ false
kept_agrees true Works request = refl
kept_agrees true FailsBefore request = refl
kept_agrees true FailsAfter request = refl
kept_agrees false plan request = refl

start_agrees : (st : SourceState) (fs : List Fact) (now : ℕ) → disputes (start_answer st fs now) ≡ false
start_agrees Down fs now =
    let P : Outcome → Type 0 = λ o. disputes o ≡ false in
    cond_both (nat_lt now (clock_of fs)) _ _ P (λ e. refl) (λ e. cond_both (nat_lt start_max now) _ _ P (λ e2. refl) (λ e2. refl))
start_agrees Idle fs now = refl
start_agrees (Asking s) fs now = refl

again_agrees : (vc : Channel) (st : SourceState) (fs : List Fact) → disputes (again_answer vc st fs) ≡ false
again_agrees vc Down fs = refl
again_agrees vc Idle fs = refl
again_agrees vc (Asking s) fs = refl

emit_agrees : (fs : List Fact) (now : ℕ) → disputes (emit_answer fs now) ≡ false
emit_agrees fs now =
    let P : Outcome → Type 0 = λ o. disputes o ≡ false in
    cond_both (nat_lt now (clock_of fs)) _ _ P (λ e. refl)
    (λ e. cond_both (nat_lt emit_max now) _ _ P (λ e2. refl)
    (λ e2. cond_both (rate_of fs == 0) _ _ P (λ e3. refl)
    (λ e3. cond_both (nat_lt now (next_of fs)) _ _ P (λ e4. refl) (λ e4. refl))))

arrive_agrees : (conn : Conn) (fs : List Fact) (n a : ℕ) → disputes (arrive_answer conn fs n a) ≡ false
arrive_agrees conn fs n a =
    let P : Outcome → Type 0 = λ o. disputes o ≡ false in
    cond_both (not (nat_lt n (emitted_of fs))) _ _ P (λ e. refl)
    (λ e. cond_both (nat_lt n (fence_of fs)) _ _ P (λ e2. refl)
    (λ e2. cond_both (not (is_in_time conn.delay conn.tau fs n a)) _ _ P (λ e3. refl)
    (λ e3. cond_both (nat_lt a (last_arrival_of fs)) _ _ P (λ e4. refl) (λ e4. refl))))

pub step_agrees : (conn : Conn) (reserved capacity : ℕ) (fs : List Fact) → IsLawful (route_of conn) fs → (e : Event) → disputes (answer_by conn reserved capacity fs e) ≡ false
step_agrees conn reserved capacity fs lawful (Start c now) = start_agrees (state_of fs) fs now
step_agrees conn reserved capacity fs lawful (Ask c r plan) =
    up_agrees (state_of fs) _ (cond_both (last_of fs == number_max) _ _ (λ (o : Outcome). disputes o ≡ false) (λ e. refl) (λ e. kept_agrees (writes fs r) plan (next_request conn.vc fs r)))
step_agrees conn reserved capacity fs lawful (Again c) = again_agrees conn.vc (state_of fs) fs
step_agrees conn reserved capacity fs lawful (Capacity p u) = refl
step_agrees conn reserved capacity fs lawful (Crash c) = up_agrees (state_of fs) _ refl
step_agrees conn reserved capacity fs lawful (Emit c now) = up_agrees (state_of fs) _ (emit_agrees fs now)
step_agrees conn reserved capacity fs lawful (Arrive c n a) = arrive_agrees conn fs n a
step_agrees conn reserved capacity fs lawful (Request c j s) = request_agrees conn reserved capacity fs lawful c j s
step_agrees conn reserved capacity fs lawful (Turn c s) =
    cond_both (not (request_is_through (length conn.path) fs s)) _ _ (λ (o : Outcome). disputes o ≡ false) (λ e. refl) (λ e. refl)
step_agrees conn reserved capacity fs lawful (Answer c j s granted) = answer_agrees conn reserved capacity fs lawful c j s granted
step_agrees conn reserved capacity fs lawful (Told c s granted) =
    cond_both (not (answer_is_home fs s granted)) _ _ (λ (o : Outcome). disputes o ≡ false) (λ e. refl) (λ e. refl)

-- a port alone drops nothing
capped_agrees : (fault : Option CapacityFault) → disputes (capped (capacity_answer fault)) ≡ false
capped_agrees None = refl
capped_agrees (Some fault) = refl

alone_agrees : (net : Topology) (past : Past) (e : Event) → disputes (outcome_alone net past e) ≡ false
alone_agrees net past (Capacity p u) =
    cond_both (nat_lt p (length net.capacities)) _ _ (λ (o : Outcome). disputes o ≡ false) (λ e. capped_agrees (capacity_fault (reserved_on net past p) u)) (λ e. refl)
alone_agrees net past e = refl

pub outcome_agrees : (net : Topology) (past : Past) → AllLawful net past → NeverDisputes net past
outcome_agrees net past lawful e = elim (cases_option (conn_of e)) [
  | inl alone ↦ ap disputes (ap (outcome_by net past e) alone) ∙ alone_agrees net past e
  | inr own ↦ (let c = own.0 in elim (cases_option (conn_at net c)) [
    | inl unknown ↦ ap disputes (outcome_of-unknown net past e c own.1 unknown)
    | inr known ↦ ap disputes (outcome_of-known net past e c known.0 own.1 known.1) ∙ step_agrees known.0 _ _ (facts_of c past) (lawful_at net past lawful c known.0 known.1) e
  ])
]
