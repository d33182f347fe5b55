-- What a hop reserves after an answer, and after everything that does not come to it.
use Rattle.std.proofs.Common.{◌≡◌, ◌≢◌, ℕ, ◌+◌, ◌≤◌, inl, inr, refl, ap, Bool, true, false, List, [], ◌∷◌, ◌++◌, length, ◌∙◌, sym, subst, arith}
use Rattle.std.specs.Prelude.{◌||◌, ◌&&◌, ◌==◌, min, not, if◌then◌else◌, nat_lt, None, Some}
use Rattle.std.proofs.lemmas.Bool.{ne_eqb, eq-eqb, cond-false, cases_eq, and_from, and_right, lt-ltb, le-ltb, cond_both}
use Rattle.abt_gcra.specs.declared.verdict.Verdict.{Verdict}
use Rattle.abt_facts.specs.declared.fact.Fact.{Fact}
use Rattle.abt_facts.specs.declared.fact.Fact.TheVariants.{Asked, Delivered, Shut, Arrived}
use Rattle.abt_model.specs.declared.event.Event.{Event}
use Rattle.abt_model.specs.declared.event.Event.TheVariants.{Start, Ask, Again, Crash, Emit, Arrive, Request, Turn, Answer, Told, Capacity}
use Rattle.abt_model.specs.declared.outcome.Outcome.{Outcome}
use Rattle.abt_net.specs.declared.conn.Conn.{Conn}
use Rattle.abt_keep.specs.Record.{KeptRecord}
use Rattle.abt_keep.specs.declared.plan.StorePlan.{StorePlan}
use Rattle.abt_keep.specs.declared.plan.StorePlan.TheVariants.{Works, FailsBefore, FailsAfter}
use Rattle.abt_node.specs.declared.reply.Back.{Back as Returned}
use Rattle.abt_node.specs.declared.reply.Back.TheVariants.{Pass as PassBack, Drop as DropBack}
use Rattle.abt_node.specs.declared.reply.DropCause.TheVariants.{Stale, Conflict}
use Rattle.abt_node.specs.declared.reply.Onward.{Onward}
use Rattle.abt_node.specs.declared.reply.Onward.TheVariants.{Pass, Refuse, Drop}
use Rattle.abt_model.specs.declared.outcome.Cause.TheVariants.{Down as IsDown}
use Rattle.abt_model.specs.declared.outcome.Heard.{Heard as Hearing}
use Rattle.abt_model.specs.declared.outcome.Heard.TheVariants.{Raised, Refused, Ignored}
use Rattle.abt_model.specs.declared.outcome.Outcome.TheVariants.{Crashed as HasCrashed, Told as HasTold}
use Rattle.abt_facts.specs.Requests.{floor_of, ask_of}
use Rattle.abt_facts.specs.Source.{SourceState, Down, Idle, Asking, state_of, rate_of, last_of, clock_of, next_of, writes, written_for}
use Rattle.abt_facts.specs.Sent.{was_shut, request_is_at, answer_is_at, answer_is_home, request_is_through}
use Rattle.abt_facts.specs.Hop.{newest_of, held_of, is_open_at}
use Rattle.abt_facts.specs.Cells.{emitted_of, last_arrival_of, fence_of, verdict_at, is_in_time}
use Rattle.abt_cell.specs.Channel.{Channel}
use Rattle.abt_cell.specs.Message.{answer_to}
use Rattle.abt_source.specs.SourceFacts.{request_of}
use Rattle.abt_rate.specs.Limits.{emit_max, number_max, start_max}
use Rattle.abt_model.specs.Answers.{if_up, start_answer, next_request, ask_answer, emit_answer, arrive_answer, told_answer, is_hop, answer_by}
use Rattle.abt_model.specs.Outcomes.{delivery, request_adds, answer_adds, facts_added, write_adds}
use Rattle.abt_model.specs.PortTable.{policing_by, kept_at, hop_visited}
use Rattle.abt_model.specs.Decision.{reservation_at}
use Rattle.abt_node.specs.Reservation.{Reservation, is_of, answer_of}
use Rattle.abt_model.proofs.Chain.{passed_asked, asked_last, newest_asked}
use Rattle.abt_model.proofs.Holds.{newest_above, shut_there}
use Rattle.abt_model.proofs.Lawful.{Route, route_of, IsLawful}
use Rattle.abt_model.proofs.Drops.{answer_passed}
use Rattle.abt_model.proofs.Decisions.{decided, decided_back}
use Rattle.abt_model.proofs.Steps.{down_adds, kept_cases}
use Rattle.abt_model.proofs.Cases.{passed_newest}
use Rattle.abt_model.proofs.Reservations.{shut_as, shut_elsewhere, reservation_other}

-- the tests of a port on an answer, where it is of a newest number that stands
answer_tests : (below equal same fits : Bool) (granted : Bool) (r : Reservation) → below ≡ false → equal ≡ true → same ≡ true → fits ≡ true →
    (let out : Returned × Reservation =
    if below then (DropBack Stale, r)
    else if equal && same && fits then (PassBack, record r { is_open = r.is_open && granted })
    else (DropBack Conflict, r) in
    let passed : Returned × Reservation = (PassBack, record r { is_open = r.is_open && granted }) in
    out ≡ passed)
answer_tests below equal same fits granted r b e s f = rw (b, e, s, f) refl

same_again : (fs : List Fact) (j s : ℕ) → s ≡ newest_of fs j → ((floor_of fs s == floor_of fs (newest_of fs j)) && (ask_of fs s == ask_of fs (newest_of fs j))) ≡ true
same_again fs j s e = and_from _ _ (eq-eqb _ _ (ap (floor_of fs) e)) (eq-eqb _ _ (ap (ask_of fs) e))

granted_open : (opened granted : Bool) → (granted ≡ true → opened ≡ true) → (opened || not granted) ≡ true
granted_open true granted h = refl
granted_open false true h = h refl
granted_open false false h = refl

and_yes : (b : Bool) → (b && true) ≡ b
and_yes true = refl
and_yes false = refl

and_no : (b : Bool) → (b && false) ≡ false
and_no true = refl
and_no false = refl

-- what an answer of the newest number leaves at its hop
answer_leaves : (fs : List Fact) (j s : ℕ) (granted : Bool) → 1 ≤ s → s ≡ newest_of fs j →
    record (reservation_at fs j) { is_open = is_open_at fs j && granted } ≡ reservation_at (answer_adds j s granted PassBack ++ fs) j
answer_leaves fs j s true some equal = ap (λ (b : Bool). record (reservation_at fs j) { is_open = b }) (and_yes (is_open_at fs j))
answer_leaves fs j s false some equal =
    let m = newest_of fs j in
    let n : newest_of (Shut s j ∷ fs) j ≡ m = newest_above fs s j (omega arith) ∙ equal in
    let closed : (not (m == 0) && not (was_shut (Shut s j ∷ fs) m j)) ≡ false = and_right _ _ (ap not (subst (λ q. was_shut (Shut s j ∷ fs) q j ≡ true) equal (shut_there fs s j))) in
    ap (λ (b : Bool). record (reservation_at fs j) { is_open = b }) (and_no (is_open_at fs j) ∙ sym closed)
    ∙ sym (shut_as fs s j j m n)

-- the reply to an answer that was sent, and what is reserved then, are those of the node
pub answer_reserved : (l : Route) (vc : Channel) (fs : List Fact) → IsLawful l fs → (s j : ℕ) (granted : Bool) → (1 ≤ j) × (j ≤ l.hops) → answer_is_at l.hops fs s j granted ≡ true →
    answer_of (reservation_at fs j) (answer_to (request_of vc fs s) granted) ≡ (decided_back vc fs j s granted, reservation_at (answer_adds j s granted (decided_back vc fs j s granted) ++ fs) j)
answer_reserved l vc fs lawful s j granted hop at =
    let p = answer_passed l fs lawful s j granted hop at in
    let low : s ≤ newest_of fs j = passed_newest s j fs p.0 in
    let number = (asked_last l fs lawful).1 s (passed_asked l fs lawful s j p.0) in
    elim (cases_eq s (newest_of fs j)) [
      | inl equal ↦ (
          let m = newest_of fs j in
          let below : nat_lt s m ≡ false = le-ltb s m (omega arith) in
          let same = same_again fs j s equal in
          let unshut : (granted && was_shut fs m j) ≡ false = ap (λ q. granted && was_shut fs q j) (sym equal) ∙ p.1 in
          let fits : (is_open_at fs j || not granted) ≡ true = granted_open (is_open_at fs j) granted (λ yes. (
          let fresh : was_shut fs m j ≡ false = sym (ap (λ (b : Bool). b && was_shut fs m j) yes) ∙ unshut in
          and_from _ _ (ap not (ne_eqb m 0 (λ z. omega arith))) (ap not fresh))) in
          let node = answer_tests (nat_lt s m) (s == m) (is_of (reservation_at fs j) (request_of vc fs s)) (is_open_at fs j || not granted) granted (reservation_at fs j) below (eq-eqb s m equal) same fits in
          let said : decided_back vc fs j s granted ≡ PassBack = ap (λ (x : Returned × Reservation). x.0) node in
          let left = answer_leaves fs j s granted number.0 equal in
          node ∙ ap (λ (r : Reservation). (PassBack, r)) left ∙ ap (λ (d : Returned). (d, reservation_at (answer_adds j s granted d ++ fs) j)) (sym said))
      | inr differ ↦ (
          let m = newest_of fs j in
          let below : nat_lt s m ≡ true = lt-ltb s m (omega arith) in
          let node : answer_of (reservation_at fs j) (answer_to (request_of vc fs s) granted) ≡ (DropBack Stale, reservation_at fs j) = rw (below) refl in
          let said : decided_back vc fs j s granted ≡ DropBack Stale = ap (λ (x : Returned × Reservation). x.0) node in
          let left : reservation_at (answer_adds j s granted (DropBack Stale) ++ fs) j ≡ reservation_at fs j = stale_leaves fs j s granted in
          node ∙ ap (λ (r : Reservation). (DropBack Stale, r)) (sym left) ∙ ap (λ (d : Returned). (d, reservation_at (answer_adds j s granted d ++ fs) j)) (sym said))
    ]
  where
    stale_leaves : (fs : List Fact) (j s : ℕ) (granted : Bool) → reservation_at (answer_adds j s granted (DropBack Stale) ++ fs) j ≡ reservation_at fs j
    stale_leaves fs j s true = refl
    stale_leaves fs j s false = refl

-- ---- what does not come to a hop

abbrev Stays : Conn → List Fact → Event → ℕ → Outcome → Type 0
Stays conn fs e i o = kept_at conn (facts_added fs e o ++ fs) i ≡ kept_at conn fs i

with_reservation : (conn : Conn) (fs gs : List Fact) (i : ℕ) → reservation_at gs i ≡ reservation_at fs i → policing_by conn.tau gs ≡ policing_by conn.tau fs → kept_at conn gs i ≡ kept_at conn fs i
with_reservation conn fs gs i r p =
    ap (λ x. record { reservation = x; policing = if i == 1 then Some (policing_by conn.tau gs) else None }) r
    ∙ ap (λ x. record { reservation = reservation_at fs i; policing = if i == 1 then Some x else None }) p

delivery_polices : (conn : Conn) (s j : ℕ) (fs : List Fact) → policing_by conn.tau (delivery j s ++ fs) ≡ policing_by conn.tau fs
delivery_polices conn s j fs = cond_both (j == 1) (Delivered s ∷ []) [] (λ (l : List Fact). policing_by conn.tau (l ++ fs) ≡ policing_by conn.tau fs) (λ e. refl) (λ e. refl)

pub request_polices : (conn : Conn) (s j : ℕ) (fs : List Fact) (d : Onward) → policing_by conn.tau (request_adds j s d ++ fs) ≡ policing_by conn.tau fs
request_polices conn s j fs Pass = delivery_polices conn s j fs
request_polices conn s j fs (Refuse answer) = delivery_polices conn s j fs
request_polices conn s j fs (Drop cause) = delivery_polices conn s j fs

pub answer_polices : (conn : Conn) (s j : ℕ) (fs : List Fact) (granted : Bool) (d : Returned) → policing_by conn.tau (answer_adds j s granted d ++ fs) ≡ policing_by conn.tau fs
answer_polices conn s j fs true PassBack = refl
answer_polices conn s j fs false PassBack = refl
answer_polices conn s j fs true (DropBack cause) = refl
answer_polices conn s j fs false (DropBack cause) = refl

answer_other : (fs : List Fact) (s j i : ℕ) (granted : Bool) (d : Returned) → j ≢ i → reservation_at (answer_adds j s granted d ++ fs) i ≡ reservation_at fs i
answer_other fs s j i true PassBack differ = refl
answer_other fs s j i false PassBack differ = shut_elsewhere fs s j i differ
answer_other fs s j i true (DropBack cause) differ = refl
answer_other fs s j i false (DropBack cause) differ = refl

told_stays : (conn : Conn) (fs : List Fact) (c s i : ℕ) (granted : Bool) (o : Hearing) → Stays conn fs (Told c s granted) i (HasTold o)
told_stays conn fs c s i granted Raised = refl
told_stays conn fs c s i granted Refused = refl
told_stays conn fs c s i granted Ignored = refl

-- a new request leaves what each hop reserves, whether its ask wrote or not
asked_stays : (l : Route) (conn : Conn) (fs : List Fact) → IsLawful l fs → (floor ask mark i : ℕ) → kept_at conn (Asked (last_of fs + 1) floor ask mark ∷ fs) i ≡ kept_at conn fs i
asked_stays l conn fs lawful floor ask mark i =
    let m = newest_of fs i in
    let low : m ≤ last_of fs = elim (newest_asked l fs lawful i) [ inl z ↦ omega arith | inr a ↦ (let n = (asked_last l fs lawful).1 m a in omega arith) ] in
    let differ : (last_of fs + 1 == m) ≡ false = ne_eqb _ _ (λ e. omega arith) in
    let more : List Fact = Asked (last_of fs + 1) floor ask mark ∷ fs in
    let f : floor_of more m ≡ floor_of fs m = cond-false _ _ _ differ in
    let a : ask_of more m ≡ ask_of fs m = cond-false _ _ _ differ in
    let r : reservation_at more i ≡ reservation_at fs i =
    ap (λ (x : ℕ). record { newest = m; floor = x; ask = ask_of more m; is_open = is_open_at fs i }) f
    ∙ ap (λ (x : ℕ). record { newest = m; floor = floor_of fs m; ask = x; is_open = is_open_at fs i }) a in
    with_reservation conn fs more i r refl

write_stays : (conn : Conn) (fs : List Fact) (s floor ask mark i : ℕ) (b : Bool) (kept : KeptRecord) →
    kept_at conn (Asked s floor ask mark ∷ (write_adds b kept ++ fs)) i ≡ kept_at conn (Asked s floor ask mark ∷ fs) i
write_stays conn fs s floor ask mark i true kept = refl
write_stays conn fs s floor ask mark i false kept = refl

goes_stays : (l : Route) (conn : Conn) (fs : List Fact) → IsLawful l fs → (r i : ℕ) (b : Bool) (kept : KeptRecord) →
    kept_at conn (Asked (last_of fs + 1) (min (rate_of fs) r) r (emitted_of fs) ∷ (write_adds b kept ++ fs)) i ≡ kept_at conn fs i
goes_stays l conn fs lawful r i b kept =
    write_stays conn fs (last_of fs + 1) (min (rate_of fs) r) r (emitted_of fs) i b kept ∙ asked_stays l conn fs lawful (min (rate_of fs) r) r (emitted_of fs) i

ask_stays : (conn : Conn) (fs : List Fact) → IsLawful (route_of conn) fs → (c r i : ℕ) (plan : StorePlan) → Stays conn fs (Ask c r plan) i (ask_answer conn.vc fs r plan)
ask_stays conn fs lawful c r i Works =
    let P = Stays conn fs (Ask c r Works) i in
    cond_both (last_of fs == number_max) _ _ P (λ e. refl)
    (λ e. kept_cases P (writes fs r) Works (next_request conn.vc fs r) (goes_stays (route_of conn) conn fs lawful r i (writes fs r) (written_for fs r)) (λ does. refl))
ask_stays conn fs lawful c r i FailsBefore =
    let P = Stays conn fs (Ask c r FailsBefore) i in
    cond_both (last_of fs == number_max) _ _ P (λ e. refl)
    (λ e. kept_cases P (writes fs r) FailsBefore (next_request conn.vc fs r) (goes_stays (route_of conn) conn fs lawful r i (writes fs r) (written_for fs r)) (λ does. refl))
ask_stays conn fs lawful c r i FailsAfter =
    let P = Stays conn fs (Ask c r FailsAfter) i in
    cond_both (last_of fs == number_max) _ _ P (λ e. refl)
    (λ e. kept_cases P (writes fs r) FailsAfter (next_request conn.vc fs r) (goes_stays (route_of conn) conn fs lawful r i (writes fs r) (written_for fs r)) (λ does. refl))

up_stays : (conn : Conn) (fs : List Fact) (e : Event) (o : Outcome) (st : SourceState) (i : ℕ) → Stays conn fs e i o → Stays conn fs e i (if_up st o)
up_stays conn fs e o Down i stays = rw (down_adds fs e IsDown) refl
up_stays conn fs e o Idle i stays = stays
up_stays conn fs e o (Asking s) i stays = stays

start_stays : (conn : Conn) (fs : List Fact) (c now i : ℕ) (st : SourceState) → Stays conn fs (Start c now) i (start_answer st fs now)
start_stays conn fs c now i Down =
    let P = Stays conn fs (Start c now) i in
    cond_both (nat_lt now (clock_of fs)) _ _ P (λ e. refl) (λ e. cond_both (nat_lt start_max now) _ _ P (λ e2. refl) (λ e2. refl))
start_stays conn fs c now i Idle = refl
start_stays conn fs c now i (Asking s) = refl

emit_stays : (conn : Conn) (fs : List Fact) (c now i : ℕ) → Stays conn fs (Emit c now) i (emit_answer fs now)
emit_stays conn fs c now i =
    let P = Stays conn fs (Emit c now) i in
    cond_both (nat_lt now (clock_of fs)) _ _ P (λ e. refl)
    (λ e. cond_both (nat_lt emit_max now) _ _ P (λ e2. refl)
    (λ e2. cond_both (rate_of fs == 0) _ _ P (λ e3. refl)
    (λ e3. cond_both (nat_lt now (next_of fs)) _ _ P (λ e4. refl) (λ e4. refl))))

arrived_elsewhere : (conn : Conn) (fs : List Fact) (n a r i : ℕ) (v : Verdict) → 1 ≢ i → kept_at conn (Arrived n a r v ∷ fs) i ≡ kept_at conn fs i
arrived_elsewhere conn fs n a r i v differ =
    let other : (i == 1) ≡ false = ne_eqb i 1 (λ e. differ (sym e)) in
    ap (λ x. record { reservation = reservation_at fs i; policing = x }) (cond-false _ _ _ other ∙ sym (cond-false _ _ _ other))

arrive_stays : (conn : Conn) (fs : List Fact) (c n a i : ℕ) → 1 ≢ i → Stays conn fs (Arrive c n a) i (arrive_answer conn fs n a)
arrive_stays conn fs c n a i differ =
    let P = Stays conn fs (Arrive c n a) i in
    cond_both (not (nat_lt n (emitted_of fs))) _ _ P (λ e. refl)
    (λ e. cond_both (nat_lt n (fence_of fs)) _ _ P (λ e2. refl)
    (λ e2. cond_both (not (is_in_time conn.delay conn.tau fs n a)) _ _ P (λ e3. refl)
    (λ e3. cond_both (nat_lt a (last_arrival_of fs)) _ _ P (λ e4. refl) (λ e4. arrived_elsewhere conn fs n a (held_of fs 1) i (verdict_at conn.tau fs a (held_of fs 1)) differ))))

-- what a hop keeps stays where an event doesn't come to it
pub step_stays : (conn : Conn) (reserved capacity : ℕ) (fs : List Fact) → IsLawful (route_of conn) fs → (e : Event) (i : ℕ) → 1 ≤ i → hop_visited e ≢ i → Stays conn fs e i (answer_by conn reserved capacity fs e)
step_stays conn reserved capacity fs lawful (Start c now) i low differ = start_stays conn fs c now i (state_of fs)
step_stays conn reserved capacity fs lawful (Emit c now) i low differ = up_stays conn fs (Emit c now) _ (state_of fs) i (emit_stays conn fs c now i)
step_stays conn reserved capacity fs lawful (Arrive c n a) i low differ = arrive_stays conn fs c n a i differ
step_stays conn reserved capacity fs lawful (Ask c r plan) i low differ = up_stays conn fs (Ask c r plan) _ (state_of fs) i (ask_stays conn fs lawful c r i plan)
step_stays conn reserved capacity fs lawful (Again c) i low differ = refl
step_stays conn reserved capacity fs lawful (Capacity p u) i low differ = refl
step_stays conn reserved capacity fs lawful (Crash c) i low differ = up_stays conn fs (Crash c) HasCrashed (state_of fs) i refl
step_stays conn reserved capacity fs lawful (Request c j s) i low differ =
    let P = Stays conn fs (Request c j s) i in
    cond_both (not (is_hop (length conn.path) j)) _ _ P (λ e. refl)
    (λ e. cond_both (not (request_is_at fs s j)) _ _ P (λ e2. refl)
    (λ e2. with_reservation conn fs (request_adds j s (decided conn.vc fs reserved capacity j s) ++ fs) i (reservation_other fs s j i differ (decided conn.vc fs reserved capacity j s)) (request_polices conn s j fs (decided conn.vc fs reserved capacity j s))))
step_stays conn reserved capacity fs lawful (Turn c s) i low differ =
    cond_both (not (request_is_through (length conn.path) fs s)) _ _ (Stays conn fs (Turn c s) i) (λ e. refl) (λ e. refl)
step_stays conn reserved capacity fs lawful (Answer c j s granted) i low differ =
    let P = Stays conn fs (Answer c j s granted) i in
    cond_both (not (is_hop (length conn.path) j)) _ _ P (λ e. refl)
    (λ e. cond_both (not (answer_is_at (length conn.path) fs s j granted)) _ _ P (λ e2. refl)
    (λ e2. with_reservation conn fs (answer_adds j s granted (decided_back conn.vc fs j s granted) ++ fs) i (answer_other fs s j i granted (decided_back conn.vc fs j s granted) differ) (answer_polices conn s j fs granted (decided_back conn.vc fs j s granted))))
step_stays conn reserved capacity fs lawful (Told c s granted) i low differ =
    cond_both (not (answer_is_home fs s granted)) _ _ (Stays conn fs (Told c s granted) i) (λ e. refl) (λ e. told_stays conn fs c s i granted (told_answer (state_of fs) s granted))
