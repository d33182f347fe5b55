-- What one event does to what the hops of its connection hold.
use Rattle.std.proofs.Common.{◌≡◌, ℕ, ◌+◌, ◌-◌, ◌≤◌, ◌⊎◌, inl, inr, refl, ap, Bool, true, false, List, [], ◌∷◌, ◌++◌, length, ◌∙◌, subst, arith}
use Rattle.std.specs.Prelude.{◌==◌, min, not, if◌then◌else◌, nat_lt}
use Rattle.std.proofs.lemmas.Bool.{ne_eqb, cond-false, cases_eq, cond_both}
use Rattle.abt_facts.specs.declared.fact.Fact.{Fact}
use Rattle.abt_facts.specs.declared.fact.Fact.TheVariants.{Asked, Delivered, Passed, Shut}
use Rattle.abt_model.specs.declared.event.Event.{Event}
use Rattle.abt_model.specs.declared.event.Event.TheVariants.{Start, Ask, Again, Crash, Emit, Arrive, Request, Turn, Answer, Told, Capacity}
use Rattle.abt_model.specs.declared.outcome.Outcome.{Outcome}
use Rattle.abt_net.specs.declared.conn.Conn.{Conn}
use Rattle.abt_keep.specs.Record.{KeptRecord}
use Rattle.abt_keep.specs.declared.plan.StorePlan.{StorePlan}
use Rattle.abt_keep.specs.declared.plan.StorePlan.TheVariants.{Works, FailsBefore, FailsAfter}
use Rattle.abt_node.specs.declared.reply.Onward.{Onward}
use Rattle.abt_node.specs.declared.reply.Onward.TheVariants.{Pass, Refuse, Drop}
use Rattle.abt_node.specs.declared.reply.Back.{Back as Returned}
use Rattle.abt_node.specs.declared.reply.Back.TheVariants.{Pass as PassBack, Drop as DropBack}
use Rattle.abt_model.specs.declared.outcome.Cause.TheVariants.{Down as IsDown}
use Rattle.abt_model.specs.declared.outcome.Heard.{Heard as Hearing}
use Rattle.abt_model.specs.declared.outcome.Heard.TheVariants.{Raised, Refused, Ignored}
use Rattle.abt_model.specs.declared.outcome.Outcome.TheVariants.{Crashed as HasCrashed, Told as HasTold}
use Rattle.abt_facts.specs.Requests.{floor_of, ask_of}
use Rattle.abt_facts.specs.Source.{SourceState, Down, Idle, Asking, state_of, rate_of, last_of, clock_of, next_of, writes, written_for}
use Rattle.abt_facts.specs.Sent.{was_shut, request_is_at, answer_is_at, answer_is_home, request_is_through}
use Rattle.abt_facts.specs.Hop.{newest_of, held_of}
use Rattle.abt_facts.specs.Cells.{emitted_of, last_arrival_of, fence_of, is_in_time}
use Rattle.abt_cell.specs.Channel.{Channel}
use Rattle.abt_rate.specs.Limits.{emit_max, number_max, start_max}
use Rattle.abt_model.specs.Targets.{target_of, hop_in}
use Rattle.abt_model.specs.Answers.{if_up, start_answer, next_request, ask_answer, emit_answer, arrive_answer, told_answer, is_hop, answer_by}
use Rattle.abt_model.specs.Outcomes.{delivery, request_adds, answer_adds, write_adds, facts_added}
use Rattle.abt_model.proofs.Chain.{asked_last, newest_asked}
use Rattle.abt_model.proofs.Holds.{passed_other, shut_other, passed_above, passed_again, shut_now, shut_again}
use Rattle.abt_model.proofs.Lawful.{Route, route_of, IsLawful}
use Rattle.abt_model.proofs.Decisions.{decided, decided_back, decided_pass, decided_refuse, decided_back_pass}
use Rattle.abt_model.proofs.Steps.{down_adds, kept_cases}

-- after a step each hop holds no more than before, but for the one that the event comes to, and what it holds more fits
abbrev pub IsWithin : (sum capacity hop : ℕ) → (old new : List Fact) → ℕ → Type 0
IsWithin sum capacity hop old new j = (held_of new j ≤ held_of old j) ⊎ ((hop ≡ j) × (sum - held_of old j + held_of new j ≤ capacity))

same_within : (sum capacity hop : ℕ) (fs : List Fact) (j : ℕ) → IsWithin sum capacity hop fs fs j
same_within sum capacity hop fs j = inl (omega arith)

held_delivered : (fs : List Fact) (s j i : ℕ) → held_of (delivery j s ++ fs) i ≡ held_of fs i
held_delivered fs s j i = cond_both (j == 1) (Delivered s ∷ []) [] (λ (l : List Fact). held_of (l ++ fs) i ≡ held_of fs i) (λ e. refl) (λ e. refl)

held_passed_delivered : (fs : List Fact) (s j i : ℕ) → held_of (Passed s j ∷ (delivery j s ++ fs)) i ≡ held_of (Passed s j ∷ fs) i
held_passed_delivered fs s j i = cond_both (j == 1) (Delivered s ∷ []) [] (λ (l : List Fact). held_of (Passed s j ∷ (l ++ fs)) i ≡ held_of (Passed s j ∷ fs) i) (λ e. refl) (λ e. refl)

held_shut_delivered : (fs : List Fact) (s j i : ℕ) → held_of (Shut s j ∷ (delivery j s ++ fs)) i ≡ held_of (Shut s j ∷ fs) i
held_shut_delivered fs s j i = cond_both (j == 1) (Delivered s ∷ []) [] (λ (l : List Fact). held_of (Shut s j ∷ (l ++ fs)) i ≡ held_of (Shut s j ∷ fs) i) (λ e. refl) (λ e. refl)

request_within : (k : Route) (vc : Channel) (reserved capacity : ℕ) (fs : List Fact) → IsLawful k fs → (s j i : ℕ) → (d : Onward) →
    decided vc fs reserved capacity j s ≡ d → IsWithin reserved capacity j fs (request_adds j s d ++ fs) i
request_within k vc reserved capacity fs lawful s j i Pass e = elim (cases_eq j i) [
  | inr differ ↦ inl (omega (arith, held_passed_delivered fs s j i, passed_other fs s j i differ))
  | inl same ↦ subst (λ q. IsWithin reserved capacity j fs (Passed s j ∷ (delivery j s ++ fs)) q) same (
      elim (decided_pass k vc fs lawful reserved capacity j s e) [
        | inl above ↦ inr (refl, (let a = passed_above fs s j above.0 in let b = held_passed_delivered fs s j j in omega (arith, a, b, above.2)))
        | inr equal ↦ inl (omega (arith, held_passed_delivered fs s j j, passed_again fs s j equal.0))
      ])
]
request_within k vc reserved capacity fs lawful s j i (Refuse answer) e = elim (cases_eq j i) [
  | inr differ ↦ inl (omega (arith, held_shut_delivered fs s j i, shut_other fs s j i differ))
  | inl same ↦ subst (λ q. IsWithin reserved capacity j fs (Shut s j ∷ (delivery j s ++ fs)) q) same (
      elim (decided_refuse k vc fs lawful reserved capacity j s answer e) [
        | inl above ↦ inl (omega (arith, held_shut_delivered fs s j j, shut_now fs s j (omega arith) (λ z. omega arith), above.1))
        | inr equal ↦ inl (omega (arith, held_shut_delivered fs s j j, shut_again k fs lawful s j equal.0))
      ])
]
request_within k vc reserved capacity fs lawful s j i (Drop cause) e = inl (omega (arith, held_delivered fs s j i))

answer_within : (k : Route) (vc : Channel) (reserved capacity : ℕ) (fs : List Fact) → IsLawful k fs → (s j i : ℕ) (granted : Bool) → (d : Returned) →
    decided_back vc fs j s granted ≡ d → IsWithin reserved capacity j fs (answer_adds j s granted d ++ fs) i
answer_within k vc reserved capacity fs lawful s j i true PassBack e = inl (omega arith)
answer_within k vc reserved capacity fs lawful s j i false PassBack e = elim (cases_eq j i) [
  | inr differ ↦ inl (omega (arith, shut_other fs s j i differ))
  | inl same ↦ subst (λ q. IsWithin reserved capacity j fs (Shut s j ∷ fs) q) same (
      inl (shut_again k fs lawful s j (decided_back_pass vc fs j s false e)))
]
answer_within k vc reserved capacity fs lawful s j i true (DropBack cause) e = inl (omega arith)
answer_within k vc reserved capacity fs lawful s j i false (DropBack cause) e = inl (omega arith)

told_within : (reserved capacity : ℕ) (fs : List Fact) (c s i : ℕ) (granted : Bool) (o : Hearing) → IsWithin reserved capacity 0 fs (facts_added fs (Told c s granted) (HasTold o) ++ fs) i
told_within reserved capacity fs c s i granted Raised = inl (omega arith)
told_within reserved capacity fs c s i granted Refused = inl (omega arith)
told_within reserved capacity fs c s i granted Ignored = inl (omega arith)

-- what an ask writes is nothing to the hops
write_held : (fs : List Fact) (s floor ask mark : ℕ) (b : Bool) (kept : KeptRecord) (i : ℕ) →
    held_of (Asked s floor ask mark ∷ (write_adds b kept ++ fs)) i ≡ held_of (Asked s floor ask mark ∷ fs) i
write_held fs s floor ask mark true kept i = refl
write_held fs s floor ask mark false kept i = refl

-- a new request leaves what each hop holds
asked_held : (k : Route) (fs : List Fact) → IsLawful k fs → (floor ask mark i : ℕ) → held_of (Asked (last_of fs + 1) floor ask mark ∷ fs) i ≡ held_of fs i
asked_held k fs lawful floor ask mark i =
    let m = newest_of fs i in
    let low : m ≤ last_of fs = elim (newest_asked k fs lawful i) [ inl z ↦ omega arith | inr a ↦ (let n = (asked_last k fs lawful).1 m a in omega arith) ] in
    let differ : (last_of fs + 1 == m) ≡ false = ne_eqb _ _ (λ e. omega arith) in
    let more : List Fact = Asked (last_of fs + 1) floor ask mark ∷ fs in
    let f : floor_of more m ≡ floor_of fs m = cond-false _ _ _ differ in
    let a : ask_of more m ≡ ask_of fs m = cond-false _ _ _ differ in
    ap (λ (x : ℕ). if m == 0 then 0 else (if was_shut fs m i then x else ask_of more m)) f
    ∙ ap (λ (y : ℕ). if m == 0 then 0 else (if was_shut fs m i then floor_of fs m else y)) a

ask_goes : (k : Route) (reserved capacity : ℕ) (fs : List Fact) → IsLawful k fs → (r i : ℕ) (b : Bool) (kept : KeptRecord) →
    IsWithin reserved capacity 0 fs (Asked (last_of fs + 1) (min (rate_of fs) r) r (emitted_of fs) ∷ (write_adds b kept ++ fs)) i
ask_goes k reserved capacity fs lawful r i b kept =
    inl (omega (arith, write_held fs (last_of fs + 1) (min (rate_of fs) r) r (emitted_of fs) b kept i, asked_held k fs lawful (min (rate_of fs) r) r (emitted_of fs) i))

ask_within : (k : Route) (reserved capacity : ℕ) (fs : List Fact) → IsLawful k fs → (vc : Channel) (c r i : ℕ) (plan : StorePlan) → IsWithin reserved capacity 0 fs (facts_added fs (Ask c r plan) (ask_answer vc fs r plan) ++ fs) i
ask_within k reserved capacity fs lawful vc c r i Works =
    let P : Outcome → Type 0 = λ o. IsWithin reserved capacity 0 fs (facts_added fs (Ask c r Works) o ++ fs) i in
    cond_both (last_of fs == number_max) _ _ P (λ e. inl (omega arith))
    (λ e. kept_cases P (writes fs r) Works (next_request vc fs r) (ask_goes k reserved capacity fs lawful r i (writes fs r) (written_for fs r)) (λ does. inl (omega arith)))
ask_within k reserved capacity fs lawful vc c r i FailsBefore =
    let P : Outcome → Type 0 = λ o. IsWithin reserved capacity 0 fs (facts_added fs (Ask c r FailsBefore) o ++ fs) i in
    cond_both (last_of fs == number_max) _ _ P (λ e. inl (omega arith))
    (λ e. kept_cases P (writes fs r) FailsBefore (next_request vc fs r) (ask_goes k reserved capacity fs lawful r i (writes fs r) (written_for fs r)) (λ does. inl (omega arith)))
ask_within k reserved capacity fs lawful vc c r i FailsAfter =
    let P : Outcome → Type 0 = λ o. IsWithin reserved capacity 0 fs (facts_added fs (Ask c r FailsAfter) o ++ fs) i in
    cond_both (last_of fs == number_max) _ _ P (λ e. inl (omega arith))
    (λ e. kept_cases P (writes fs r) FailsAfter (next_request vc fs r) (ask_goes k reserved capacity fs lawful r i (writes fs r) (written_for fs r)) (λ does. inl (omega arith)))

-- a source that is down adds nothing
up_within : (reserved capacity : ℕ) (fs : List Fact) (e : Event) (o : Outcome) (st : SourceState) (i : ℕ) → IsWithin reserved capacity 0 fs (facts_added fs e o ++ fs) i → IsWithin reserved capacity 0 fs (facts_added fs e (if_up st o) ++ fs) i
up_within reserved capacity fs e o Down i within = rw (down_adds fs e IsDown) (same_within reserved capacity 0 fs i)
up_within reserved capacity fs e o Idle i within = within
up_within reserved capacity fs e o (Asking s) i within = within

start_within : (reserved capacity : ℕ) (fs : List Fact) (c now i : ℕ) (st : SourceState) → IsWithin reserved capacity 0 fs (facts_added fs (Start c now) (start_answer st fs now) ++ fs) i
start_within reserved capacity fs c now i Down =
    let P : Outcome → Type 0 = λ o. IsWithin reserved capacity 0 fs (facts_added fs (Start c now) o ++ fs) i in
    cond_both (nat_lt now (clock_of fs)) _ _ P (λ e. inl (omega arith))
    (λ e. cond_both (nat_lt start_max now) _ _ P (λ e2. inl (omega arith)) (λ e2. inl (omega arith)))
start_within reserved capacity fs c now i Idle = inl (omega arith)
start_within reserved capacity fs c now i (Asking s) = inl (omega arith)

emit_within : (reserved capacity : ℕ) (fs : List Fact) (c now i : ℕ) → IsWithin reserved capacity 0 fs (facts_added fs (Emit c now) (emit_answer fs now) ++ fs) i
emit_within reserved capacity fs c now i =
    let P : Outcome → Type 0 = λ o. IsWithin reserved capacity 0 fs (facts_added fs (Emit c now) o ++ fs) i in
    cond_both (nat_lt now (clock_of fs)) _ _ P (λ e. inl (omega arith))
    (λ e. cond_both (nat_lt emit_max now) _ _ P (λ e2. inl (omega arith))
    (λ e2. cond_both (rate_of fs == 0) _ _ P (λ e3. inl (omega arith))
    (λ e3. cond_both (nat_lt now (next_of fs)) _ _ P (λ e4. inl (omega arith)) (λ e4. inl (omega arith)))))

arrive_within : (conn : Conn) (reserved capacity : ℕ) (fs : List Fact) (c n a i : ℕ) → IsWithin reserved capacity 1 fs (facts_added fs (Arrive c n a) (arrive_answer conn fs n a) ++ fs) i
arrive_within conn reserved capacity fs c n a i =
    let P : Outcome → Type 0 = λ o. IsWithin reserved capacity 1 fs (facts_added fs (Arrive c n a) o ++ fs) i in
    cond_both (not (nat_lt n (emitted_of fs))) _ _ P (λ e. inl (omega arith))
    (λ e. cond_both (nat_lt n (fence_of fs)) _ _ P (λ e2. inl (omega arith))
    (λ e2. cond_both (not (is_in_time conn.delay conn.tau fs n a)) _ _ P (λ e3. inl (omega arith))
    (λ e3. cond_both (nat_lt a (last_arrival_of fs)) _ _ P (λ e4. inl (omega arith)) (λ e4. inl (omega arith)))))

pub step_within : (conn : Conn) (reserved capacity : ℕ) (fs : List Fact) → IsLawful (route_of conn) fs → (e : Event) (i : ℕ) → IsWithin reserved capacity (hop_in (target_of e)) fs (facts_added fs e (answer_by conn reserved capacity fs e) ++ fs) i
step_within conn reserved capacity fs lawful (Start c now) i = start_within reserved capacity fs c now i (state_of fs)
step_within conn reserved capacity fs lawful (Emit c now) i = up_within reserved capacity fs (Emit c now) _ (state_of fs) i (emit_within reserved capacity fs c now i)
step_within conn reserved capacity fs lawful (Arrive c n a) i = arrive_within conn reserved capacity fs c n a i
step_within conn reserved capacity fs lawful (Ask c r plan) i = up_within reserved capacity fs (Ask c r plan) _ (state_of fs) i (ask_within (route_of conn) reserved capacity fs lawful conn.vc c r i plan)
step_within conn reserved capacity fs lawful (Again c) i = inl (omega arith)
step_within conn reserved capacity fs lawful (Capacity p u) i = inl (omega arith)
step_within conn reserved capacity fs lawful (Crash c) i = up_within reserved capacity fs (Crash c) HasCrashed (state_of fs) i (inl (omega arith))
step_within conn reserved capacity fs lawful (Request c j s) i =
    let P : Outcome → Type 0 = λ o. IsWithin reserved capacity j fs (facts_added fs (Request c j s) o ++ fs) i in
    cond_both (not (is_hop (length conn.path) j)) _ _ P (λ e. inl (omega arith))
    (λ e. cond_both (not (request_is_at fs s j)) _ _ P (λ e2. inl (omega arith)) (λ e2. request_within (route_of conn) conn.vc reserved capacity fs lawful s j i _ refl))
step_within conn reserved capacity fs lawful (Turn c s) i =
    cond_both (not (request_is_through (length conn.path) fs s)) _ _ (λ (o : Outcome). IsWithin reserved capacity 0 fs (facts_added fs (Turn c s) o ++ fs) i) (λ e. inl (omega arith)) (λ e. inl (omega arith))
step_within conn reserved capacity fs lawful (Answer c j s granted) i =
    let P : Outcome → Type 0 = λ o. IsWithin reserved capacity j fs (facts_added fs (Answer c j s granted) o ++ fs) i in
    cond_both (not (is_hop (length conn.path) j)) _ _ P (λ e. inl (omega arith))
    (λ e. cond_both (not (answer_is_at (length conn.path) fs s j granted)) _ _ P (λ e2. inl (omega arith)) (λ e2. answer_within (route_of conn) conn.vc reserved capacity fs lawful s j i granted _ refl))
step_within conn reserved capacity fs lawful (Told c s granted) i =
    cond_both (not (answer_is_home fs s granted)) _ _ (λ (o : Outcome). IsWithin reserved capacity 0 fs (facts_added fs (Told c s granted) o ++ fs) i) (λ e. inl (omega arith)) (λ e. told_within reserved capacity fs c s i granted (told_answer (state_of fs) s granted))
