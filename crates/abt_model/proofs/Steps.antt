-- Each event adds facts that may follow.
use Rattle.std.proofs.Common.{◌≡◌, ℕ, ◌+◌, ◌-◌, ◌≤◌, ◌<◌, ◌⊎◌, inl, inr, refl, ap, Bool, true, false, List, [], ◌∷◌, ◌++◌, length, ◌∙◌, sym, subst, arith}
use Rattle.std.specs.Prelude.{◌==◌, not, nat_lt, min}
use Rattle.std.proofs.lemmas.Bool.{false≢true, or_left, eqb-true, ne_eqb, eq-eqb, cond-false, cond-true, cases_eq, and_parts, cond_both, not-false, ltb-true, ltb-false, eqb-false}
use Rattle.std.proofs.lemmas.Bool.Decides.{nat_tests}
use Rattle.abt_rate.specs.Rate.{IsRate}
use Rattle.abt_facts.specs.declared.fact.Fact.{Fact}
use Rattle.abt_facts.specs.declared.fact.Fact.TheVariants.{Asked as FactAsked, Delivered, Passed, Shut}
use Rattle.abt_model.specs.declared.outcome.Cause.{Cause}
use Rattle.abt_node.specs.declared.reply.Onward.{Onward}
use Rattle.abt_node.specs.declared.reply.Onward.TheVariants.{Pass, Refuse, Drop}
use Rattle.abt_node.specs.declared.reply.Back.{Back as Returned}
use Rattle.abt_node.specs.declared.reply.Back.TheVariants.{Pass as PassBack, Drop as DropBack}
use Rattle.abt_keep.specs.declared.plan.StorePlan.{StorePlan}
use Rattle.abt_keep.specs.declared.plan.StorePlan.TheVariants.{Works, FailsBefore, FailsAfter}
use Rattle.abt_net.specs.declared.conn.Conn.{Conn}
use Rattle.abt_model.specs.declared.event.Event.{Event}
use Rattle.abt_model.specs.declared.event.Event.TheVariants.{Start, Ask, Again, Crash, Emit, Arrive, Request, Turn, Answer, Told, Capacity}
use Rattle.abt_model.specs.declared.outcome.Heard.{Heard as Hearing}
use Rattle.abt_model.specs.declared.outcome.Heard.TheVariants.{Ignored}
use Rattle.abt_model.specs.declared.outcome.Outcome.{Outcome}
use Rattle.abt_model.specs.declared.outcome.Cause.TheVariants.{Down as IsDown}
use Rattle.abt_model.specs.declared.outcome.Outcome.TheVariants.{Asked as HasAsked, AskRefused, Crashed as HasCrashed, Told as HasTold, NotEnabled}
use Rattle.abt_facts.specs.Requests.{floor_of}
use Rattle.abt_facts.specs.Source.{SourceState, Down, Idle, Asking, state_of, rate_of, kept_of, last_of, clock_of, next_of, need_of, writes, written_for}
use Rattle.abt_facts.proofs.Keeps.{written_stored}
use Rattle.abt_facts.specs.Sent.{was_delivered, was_shut, request_is_at, yes_is_at, answer_is_at, answer_is_home, request_is_through}
use Rattle.abt_facts.specs.Hop.{newest_of, held_of}
use Rattle.abt_facts.specs.Cells.{emitted_of, moment_of, last_arrival_of, fence_of, is_in_time}
use Rattle.abt_cell.specs.Channel.{Channel}
use Rattle.abt_cell.specs.Message.{Terms}
use Rattle.abt_source.specs.declared.fault.AskFault.TheVariants.{Keep}
use Rattle.abt_model.specs.Events.{AsksRate}
use Rattle.abt_rate.specs.Limits.{emit_max, number_max, start_max}
use Rattle.abt_model.specs.Answers.{if_up, start_answer, next_request, kept_answer, ask_answer, emit_answer, arrive_answer, hearing, told_answer, is_hop, answer_by}
use Rattle.abt_model.specs.Outcomes.{delivery, request_adds, answer_adds, write_adds, facts_added}
use Rattle.abt_model.proofs.Chain.{at_asked, asked_last}
use Rattle.abt_model.proofs.Records.{recorded, not_above}
use Rattle.abt_model.proofs.Decisions.{closed_shut, decided, decided_back, decided_pass, decided_refuse, decided_back_pass}
use Rattle.abt_model.proofs.Lawful.{Route, route_of, IsAtHop, IsYesAtHop, MayFollow, IsLawful}

pub is_hop_tells : (k j : ℕ) → is_hop k j ≡ true → (1 ≤ j) × (j ≤ k)
is_hop_tells k j e = grind (arith, nat_tests)

pub request_at_tells : (fs : List Fact) (s j : ℕ) → 1 ≤ j → request_is_at fs s j ≡ true → IsAtHop fs s j
request_at_tells fs s j low e = elim (cases_eq j 1) [
  | inl h ↦ inl (h, (sym (cond-true _ _ _ (eq-eqb j 1 h)) ∙ e))
  | inr h ↦ inr (j - 1, omega arith, omega arith, (sym (cond-false _ _ _ (ne_eqb j 1 h)) ∙ e))
]

pub yes_at_tells : (k : ℕ) (fs : List Fact) (s j : ℕ) → yes_is_at k fs s j ≡ true → IsYesAtHop k fs s j
yes_at_tells k fs s j e = elim (cases_eq j k) [
  | inl h ↦ inl (h, (sym (cond-true _ _ _ (eq-eqb j k h)) ∙ e))
  | inr h ↦ inr (sym (cond-false _ _ _ (ne_eqb j k h)) ∙ e)
]

delivered_lawful : (k : Route) (fs : List Fact) (s j : ℕ) → IsAtHop fs s j → 1 ≤ j → IsLawful k fs → IsLawful k (delivery j s ++ fs)
delivered_lawful k fs s j at low lawful =
    cond_both (j == 1) (Delivered s ∷ []) [] (λ (l : List Fact). IsLawful k (l ++ fs)) (λ e. (at_asked k fs lawful s j at, lawful)) (λ e. lawful)

delivered_may : (s j : ℕ) (fs : List Fact) → (P : List Fact → Type 0) →
    ((j ≡ 1 → was_delivered fs s ≡ true) → P fs) → ((j ≡ 1 → was_delivered (Delivered s ∷ fs) s ≡ true) → P (Delivered s ∷ fs)) → P (delivery j s ++ fs)
delivered_may s j fs P without with =
    cond_both (j == 1) (Delivered s ∷ []) [] (λ (l : List Fact). P (l ++ fs))
    (λ e. with (λ d. or_left _ _ (eq-eqb s s refl)))
    (λ e. without (λ d. absurd (false≢true (sym e ∙ eq-eqb j 1 d))))

request_lawful : (k : Route) (vc : Channel) (reserved capacity : ℕ) (fs : List Fact) → IsLawful k fs → (s j : ℕ) → (1 ≤ j) × (j ≤ k.hops) → IsAtHop fs s j → (d : Onward) →
    decided vc fs reserved capacity j s ≡ d → IsLawful k (request_adds j s d ++ fs)
request_lawful k vc reserved capacity fs lawful s j hop at Pass e =
    let tells = decided_pass k vc fs lawful reserved capacity j s e in
    let fresh : (newest_of fs j < s) ⊎ ((newest_of fs j ≡ s) × (was_shut fs s j ≡ false)) =
    elim tells [ inl above ↦ inl above.0 | inr equal ↦ inr (equal.0, subst (λ n. was_shut fs n j ≡ false) equal.0 equal.1) ] in
    (delivered_may s j fs (λ (gs : List Fact). MayFollow k gs (Passed s j)) (λ first. (at, hop.0, hop.1, fresh, first)) (λ there. (at, hop.0, hop.1, fresh, there)), delivered_lawful k fs s j at hop.0 lawful)
request_lawful k vc reserved capacity fs lawful s j hop at (Refuse answer) e =
    let number = (asked_last k fs lawful).1 s (at_asked k fs lawful s j at) in
    let tells : ((newest_of fs j < s) × (floor_of fs s ≤ held_of fs j)) ⊎ (was_shut fs s j ≡ true) =
    elim (decided_refuse k vc fs lawful reserved capacity j s answer e) [
      | inl above ↦ inl above
      | inr equal ↦ inr (subst (λ n. was_shut fs n j ≡ true) equal.0 (closed_shut fs j (λ z. omega (arith, number.0, equal.0)) equal.1))
    ] in (
      delivered_may s j fs (λ (gs : List Fact). MayFollow k gs (Shut s j)) (λ first. (hop.0, hop.1, elim tells [ inl above ↦ inl (at, above.0, above.1, first) | inr shut ↦ inr (inl shut) ]))
          (λ there. (hop.0, hop.1, elim tells [ inl above ↦ inl (at, above.0, above.1, there) | inr shut ↦ inr (inl shut) ])),
      delivered_lawful k fs s j at hop.0 lawful,
    )
request_lawful k vc reserved capacity fs lawful s j hop at (Drop cause) e = delivered_lawful k fs s j at hop.0 lawful

answer_lawful : (k : Route) (vc : Channel) (fs : List Fact) → IsLawful k fs → (s j : ℕ) (granted : Bool) → (1 ≤ j) × (j ≤ k.hops) → answer_is_at k.hops fs s j granted ≡ true → (d : Returned) →
    decided_back vc fs j s granted ≡ d → IsLawful k (answer_adds j s granted d ++ fs)
answer_lawful k vc fs lawful s j true hop at PassBack e = ((yes_at_tells k.hops fs s j at, hop.0, hop.1), lawful)
answer_lawful k vc fs lawful s j false hop at PassBack e =
    ((hop.0, hop.1, inr (inr ((and_parts _ _ at).1, decided_back_pass vc fs j s false e))), lawful)
answer_lawful k vc fs lawful s j true hop at (DropBack cause) e = lawful
answer_lawful k vc fs lawful s j false hop at (DropBack cause) e = lawful

told_lawful : (k : Route) (fs : List Fact) → IsLawful k fs → (c s : ℕ) (granted : Bool) → answer_is_home fs s granted ≡ true → (st : SourceState) → state_of fs ≡ st →
    IsLawful k (facts_added fs (Told c s granted) (HasTold (told_answer st s granted)) ++ fs)
told_lawful k fs lawful c s granted sent Down is = lawful
told_lawful k fs lawful c s granted sent Idle is = lawful
told_lawful k fs lawful c s true sent (Asking t) is =
    cond_both (t == s) (hearing true) Ignored (λ (o : Hearing). IsLawful k (facts_added fs (Told c s true) (HasTold o) ++ fs)) (λ e. ((is ∙ ap Asking (eqb-true t s e), sent), lawful)) (λ e. lawful)
told_lawful k fs lawful c s false sent (Asking t) is =
    cond_both (t == s) (hearing false) Ignored (λ (o : Hearing). IsLawful k (facts_added fs (Told c s false) (HasTold o) ++ fs)) (λ e. ((is ∙ ap Asking (eqb-true t s e), sent), lawful)) (λ e. lawful)

-- an ask that writes answers by its plan, and any other sends its request
pub kept_cases : (P : Outcome → Type 0) (writes : Bool) (plan : StorePlan) (request : Terms) → P (HasAsked request) → (writes ≡ true → P (AskRefused Keep)) → P (kept_answer writes plan request)
kept_cases P true Works request goes fails = goes
kept_cases P true FailsBefore request goes fails = fails refl
kept_cases P true FailsAfter request goes fails = fails refl
kept_cases P false plan request goes fails = goes

-- a number is left after the last, where that isn't the greatest
number_left : (k : Route) (fs : List Fact) → IsLawful k fs → (last_of fs == number_max) ≡ false → last_of fs + 1 ≤ number_max
number_left k fs lawful e =
    let differ = eqb-false (last_of fs) number_max e in
    let held = recorded k fs lawful in
    omega (arith, differ, held.ahead, held.behind, held.within)

-- a request that is asked for, with what its ask wrote
asks_lawful : (k : Route) (fs : List Fact) → IsLawful k fs → (r : ℕ) → IsRate r → last_of fs + 1 ≤ number_max → (b : Bool) → writes fs r ≡ b →
    IsLawful k (FactAsked (last_of fs + 1) (min (rate_of fs) r) r (emitted_of fs) ∷ (write_adds b (written_for fs r) ++ fs))
asks_lawful k fs lawful r rate left true does =
    let written = written_for fs r in
    ((refl, omega (arith, left), refl, refl, rate, λ e. sym (written_stored written fs r)), ((r, refl, does, left, rate), lawful))
asks_lawful k fs lawful r rate left false does =
    let held = recorded k fs lawful in
    let room = not_above (kept_of fs) (last_of fs) (need_of fs r) does in
    ((refl, omega (arith, held.behind, room.0), refl, refl, rate, λ e. absurd (false≢true (sym does ∙ e))), lawful)

-- an ask, whatever its write does
asked_lawful : (k : Route) (fs : List Fact) → IsLawful k fs → (vc : Channel) (c r : ℕ) (plan : StorePlan) → IsRate r → IsLawful k (facts_added fs (Ask c r plan) (ask_answer vc fs r plan) ++ fs)
asked_lawful k fs lawful vc c r Works rate =
    let P : Outcome → Type 0 = λ o. IsLawful k (facts_added fs (Ask c r Works) o ++ fs) in
    cond_both (last_of fs == number_max) _ _ P (λ e. lawful)
    (λ e. kept_cases P (writes fs r) Works (next_request vc fs r) (asks_lawful k fs lawful r rate (number_left k fs lawful e) (writes fs r) refl) (λ does. lawful))
asked_lawful k fs lawful vc c r FailsBefore rate =
    let P : Outcome → Type 0 = λ o. IsLawful k (facts_added fs (Ask c r FailsBefore) o ++ fs) in
    cond_both (last_of fs == number_max) _ _ P (λ e. lawful)
    (λ e. kept_cases P (writes fs r) FailsBefore (next_request vc fs r) (asks_lawful k fs lawful r rate (number_left k fs lawful e) (writes fs r) refl) (λ does. lawful))
asked_lawful k fs lawful vc c r FailsAfter rate =
    let P : Outcome → Type 0 = λ o. IsLawful k (facts_added fs (Ask c r FailsAfter) o ++ fs) in
    cond_both (last_of fs == number_max) _ _ P (λ e. lawful)
    (λ e. kept_cases P (writes fs r) FailsAfter (next_request vc fs r) (asks_lawful k fs lawful r rate (number_left k fs lawful e) (writes fs r) refl)
    (λ does. ((r, refl, does, number_left k fs lawful e, rate), lawful)))

pub down_adds : (fs : List Fact) (e : Event) (cause : Cause) → facts_added fs e (NotEnabled cause) ≡ []
down_adds fs (Ask c r Works) cause = refl
down_adds fs (Ask c r FailsBefore) cause = refl
down_adds fs (Ask c r FailsAfter) cause = refl
down_adds fs (Start c now) cause = refl
down_adds fs other cause = refl

-- a source that is down adds nothing
up_lawful : (k : Route) (fs : List Fact) → IsLawful k fs → (e : Event) (o : Outcome) (st : SourceState) → IsLawful k (facts_added fs e o ++ fs) → IsLawful k (facts_added fs e (if_up st o) ++ fs)
up_lawful k fs lawful e o Down up = rw (down_adds fs e IsDown) lawful
up_lawful k fs lawful e o Idle up = up
up_lawful k fs lawful e o (Asking s) up = up

start_lawful : (k : Route) (fs : List Fact) → IsLawful k fs → (c now : ℕ) (st : SourceState) → IsLawful k (facts_added fs (Start c now) (start_answer st fs now) ++ fs)
start_lawful k fs lawful c now Down =
    let P : Outcome → Type 0 = λ o. IsLawful k (facts_added fs (Start c now) o ++ fs) in
    cond_both (nat_lt now (clock_of fs)) _ _ P (λ e. lawful)
    (λ e. cond_both (nat_lt start_max now) _ _ P (λ e2. lawful) (λ e2. ((refl, ltb-false now (clock_of fs) e, ltb-false start_max now e2), lawful)))
start_lawful k fs lawful c now Idle = lawful
start_lawful k fs lawful c now (Asking s) = lawful

emit_lawful : (k : Route) (fs : List Fact) → IsLawful k fs → (c now : ℕ) → IsLawful k (facts_added fs (Emit c now) (emit_answer fs now) ++ fs)
emit_lawful k fs lawful c now =
    let P : Outcome → Type 0 = λ o. IsLawful k (facts_added fs (Emit c now) o ++ fs) in
    cond_both (nat_lt now (clock_of fs)) _ _ P (λ e. lawful)
    (λ e. cond_both (nat_lt emit_max now) _ _ P (λ e2. lawful)
    (λ e2. cond_both (rate_of fs == 0) _ _ P (λ e3. lawful)
    (λ e3. cond_both (nat_lt now (next_of fs)) _ _ P (λ e4. lawful)
    (λ e4. ((refl, refl, eqb-false (rate_of fs) 0 e3, ltb-false now (clock_of fs) e, ltb-false now (next_of fs) e4, ltb-false emit_max now e2), lawful)))))

-- what it tells that a cell is in time
pub in_time_tells : (delay tau : ℕ) (fs : List Fact) (n a : ℕ) → is_in_time delay tau fs n a ≡ true → (moment_of fs n + delay ≤ a) × (a ≤ moment_of fs n + delay + tau)
in_time_tells delay tau fs n a e = grind (arith, nat_tests)

arrive_lawful : (conn : Conn) (fs : List Fact) → IsLawful (route_of conn) fs → (c n a : ℕ) → IsLawful (route_of conn) (facts_added fs (Arrive c n a) (arrive_answer conn fs n a) ++ fs)
arrive_lawful conn fs lawful c n a =
    let P : Outcome → Type 0 = λ o. IsLawful (route_of conn) (facts_added fs (Arrive c n a) o ++ fs) in
    cond_both (not (nat_lt n (emitted_of fs))) _ _ P (λ e. lawful)
    (λ e. cond_both (nat_lt n (fence_of fs)) _ _ P (λ e2. lawful)
    (λ e2. cond_both (not (is_in_time conn.delay conn.tau fs n a)) _ _ P (λ e3. lawful)
    (λ e3. cond_both (nat_lt a (last_arrival_of fs)) _ _ P (λ e4. lawful)
    (λ e4. (
    let both = in_time_tells conn.delay conn.tau fs n a (not-false _ e3) in
    ((ltb-true n (emitted_of fs) (not-false _ e), ltb-false n (fence_of fs) e2, both.0, both.1, ltb-false a (last_arrival_of fs) e4, refl, refl), lawful))))))

-- what an event adds is lawful
pub step_lawful : (conn : Conn) (reserved capacity : ℕ) (fs : List Fact) → IsLawful (route_of conn) fs → (e : Event) → AsksRate e → IsLawful (route_of conn) (facts_added fs e (answer_by conn reserved capacity fs e) ++ fs)
step_lawful conn reserved capacity fs lawful (Start c now) rate = start_lawful (route_of conn) fs lawful c now (state_of fs)
step_lawful conn reserved capacity fs lawful (Emit c now) rate = up_lawful (route_of conn) fs lawful (Emit c now) _ (state_of fs) (emit_lawful (route_of conn) fs lawful c now)
step_lawful conn reserved capacity fs lawful (Arrive c n a) rate = arrive_lawful conn fs lawful c n a
step_lawful conn reserved capacity fs lawful (Ask c r plan) rate = up_lawful (route_of conn) fs lawful (Ask c r plan) _ (state_of fs) (asked_lawful (route_of conn) fs lawful conn.vc c r plan rate)
step_lawful conn reserved capacity fs lawful (Again c) rate = lawful
step_lawful conn reserved capacity fs lawful (Capacity p u) rate = lawful
step_lawful conn reserved capacity fs lawful (Crash c) rate = up_lawful (route_of conn) fs lawful (Crash c) HasCrashed (state_of fs) (tt, lawful)
step_lawful conn reserved capacity fs lawful (Request c j s) rate =
    let k = route_of conn in
    let P : Outcome → Type 0 = λ o. IsLawful (route_of conn) (facts_added fs (Request c j s) o ++ fs) in
    cond_both (not (is_hop (length conn.path) j)) _ _ P (λ e. lawful)
    (λ e. (
    let hop = is_hop_tells (length conn.path) j (not-false _ e) in
    cond_both (not (request_is_at fs s j)) _ _ P (λ e2. lawful)
    (λ e2. request_lawful (route_of conn) conn.vc reserved capacity fs lawful s j hop (request_at_tells fs s j hop.0 (not-false _ e2)) _ refl)))
step_lawful conn reserved capacity fs lawful (Turn c s) rate =
    cond_both (not (request_is_through (length conn.path) fs s)) _ _ (λ (o : Outcome). IsLawful (route_of conn) (facts_added fs (Turn c s) o ++ fs)) (λ e. lawful) (λ e. (not-false _ e, lawful))
step_lawful conn reserved capacity fs lawful (Answer c j s granted) rate =
    let P : Outcome → Type 0 = λ o. IsLawful (route_of conn) (facts_added fs (Answer c j s granted) o ++ fs) in
    cond_both (not (is_hop (length conn.path) j)) _ _ P (λ e. lawful)
    (λ e. (
    let hop = is_hop_tells (length conn.path) j (not-false _ e) in
    cond_both (not (answer_is_at (length conn.path) fs s j granted)) _ _ P (λ e2. lawful)
    (λ e2. answer_lawful (route_of conn) conn.vc fs lawful s j granted hop (not-false _ e2) _ refl)))
step_lawful conn reserved capacity fs lawful (Told c s granted) rate =
    cond_both (not (answer_is_home fs s granted)) _ _ (λ (o : Outcome). IsLawful (route_of conn) (facts_added fs (Told c s granted) o ++ fs)) (λ e. lawful)
    (λ e. told_lawful (route_of conn) fs lawful c s granted (not-false _ e) (state_of fs) refl)
