-- What a hop holds stays, but for a newer request and a no to its newest.
use Rattle.std.proofs.Common.{◌≡◌, ◌≢◌, ℕ, ◌<◌, inl, inr, refl, ap, min, Bool, true, false, List, ◌∷◌, ◌++◌, length, ◌∙◌, sym, subst, arith}
use Rattle.std.specs.Prelude.{◌==◌, not, Some}
use Rattle.std.proofs.lemmas.Bool.{cases_eq, cond_both, not-false}
use Rattle.abt_rate.specs.Limits.{number_max}
use Rattle.abt_cell.specs.Channel.{Channel}
use Rattle.abt_keep.specs.declared.plan.StorePlan.{StorePlan}
use Rattle.abt_keep.specs.declared.plan.StorePlan.TheVariants.{Works, FailsBefore, FailsAfter}
use Rattle.abt_node.specs.declared.reply.Onward.{Onward}
use Rattle.abt_node.specs.declared.reply.Onward.TheVariants.{Pass, Refuse, Drop}
use Rattle.abt_node.specs.declared.reply.Back.{Back as Returned}
use Rattle.abt_node.specs.declared.reply.Back.TheVariants.{Pass as PassBack, Drop as DropBack}
use Rattle.abt_net.specs.declared.conn.Conn.{Conn}
use Rattle.abt_net.specs.Topology.{conn_at}
use Rattle.abt_facts.specs.declared.fact.Fact.{Fact}
use Rattle.abt_facts.specs.declared.fact.Fact.TheVariants.{Passed, Shut}
use Rattle.abt_facts.specs.Requests.{floor_of}
use Rattle.abt_facts.specs.Source.{SourceState, Down, Idle, Asking, state_of, rate_of, last_of, writes, written_for}
use Rattle.abt_facts.specs.Sent.{request_is_at, answer_is_at}
use Rattle.abt_facts.specs.Hop.{newest_of, held_of}
use Rattle.abt_facts.specs.Cells.{emitted_of}
use Rattle.abt_model.specs.declared.event.Event.{Event}
use Rattle.abt_model.specs.declared.event.Event.TheVariants.{Start, Ask, Again, Crash, Emit, Arrive, Request, Turn, Answer, Told, Capacity}
use Rattle.abt_model.specs.declared.outcome.Cause.TheVariants.{Down as IsDown}
use Rattle.abt_model.specs.declared.outcome.Heard.TheVariants.{Raised, Refused}
use Rattle.abt_model.specs.declared.outcome.Outcome.{Outcome}
use Rattle.abt_model.specs.declared.outcome.Outcome.TheVariants.{Started, Crashed, Emitted, Arrived, Turned, Told as HasTold}
use Rattle.abt_model.specs.Past.{Past, facts_of}
use Rattle.abt_model.specs.Reserved.{reserved_on, capacity_of}
use Rattle.abt_model.specs.Answers.{if_up, next_request, ask_answer, is_hop, answer_by}
use Rattle.abt_model.specs.Outcomes.{conn_of, port_of, request_adds, answer_adds, facts_added}
use Rattle.abt_model.specs.Run.{facts_after}
use Rattle.abt_model.specs.Promises.{EveryPast}
use Rattle.abt_model.proofs.Chain.{at_asked, asked_last}
use Rattle.abt_model.proofs.Decisions.{closed_shut, decided, decided_back, decided_pass, decided_refuse, decided_back_pass}
use Rattle.abt_model.proofs.Holds.{reserved_shut, shut_other, passed_other, passed_again, shut_now}
use Rattle.abt_model.proofs.Lawful.{Route, route_of, IsLawful}
use Rattle.abt_model.proofs.Steps.{down_adds, is_hop_tells, request_at_tells, kept_cases}
use Rattle.abt_model.proofs.Sums.{facts_after_lawful}
use Rattle.abt_model.proofs.Worlds.{cases_option, conn_cases, facts_of-own, facts_of-other, outcome_of-known, after_event-unknown, lawful_at}
use Rattle.abt_laws.proofs.AskingOut.{asked_holds}
use Rattle.abt_laws.proofs.Passing.{over_delivery}
use Rattle.abt_laws.specs.Holds.{CanChangeHold, HoldsStay}

-- what a hop holds is as it was
abbrev Stays : (i : ℕ) → List Fact → (e : Event) → Outcome → Type 0
Stays i fs e o = held_of (facts_added fs e o ++ fs) i ≡ held_of fs i

request_stays : (k : Route) (vc : Channel) (fs : List Fact) → IsLawful k fs → (reserved capacity j s i : ℕ) → s ≢ 0 → (j ≡ i → ¬ (newest_of fs j < s)) → (d : Onward) → decided vc fs reserved capacity j s ≡ d →
    held_of (request_adds j s d ++ fs) i ≡ held_of fs i
request_stays k vc fs lawful reserved capacity j s i some old Pass is = over_delivery (λ (l : List Fact). held_of (Passed s j ∷ l) i) j s fs refl ∙ elim (cases_eq j i) [
  | inr differ ↦ passed_other fs s j i differ
  | inl same ↦ elim (decided_pass k vc fs lawful reserved capacity j s is) [
    | inl above ↦ absurd (old same above.0)
    | inr equal ↦ subst (λ q. held_of (Passed s j ∷ fs) q ≡ held_of fs q) same (passed_again fs s j equal.0)
  ]
]
request_stays k vc fs lawful reserved capacity j s i some old (Refuse answer) is = over_delivery (λ (l : List Fact). held_of (Shut s j ∷ l) i) j s fs refl ∙ elim (cases_eq j i) [
  | inr differ ↦ shut_other fs s j i differ
  | inl same ↦ elim (decided_refuse k vc fs lawful reserved capacity j s answer is) [
    | inl above ↦ absurd (old same above.0)
    | inr equal ↦ (
        let more : newest_of fs j ≢ 0 = λ z. some (sym equal.0 ∙ z) in
        let closed = closed_shut fs j more equal.1 in
        let before : held_of fs j ≡ floor_of fs s = reserved_shut fs j (newest_of fs j) more closed ∙ ap (floor_of fs) equal.0 in
        subst (λ q. held_of (Shut s j ∷ fs) q ≡ held_of fs q) same (shut_now fs s j (omega (arith, equal.0)) some ∙ sym before))
  ]
]
request_stays k vc fs lawful reserved capacity j s i some old (Drop cause) is = over_delivery (λ (l : List Fact). held_of l i) j s fs refl

answer_stays : (vc : Channel) (fs : List Fact) (j s i : ℕ) (granted : Bool) → (granted ≡ false → j ≡ i → s ≢ newest_of fs j) → (d : Returned) → decided_back vc fs j s granted ≡ d →
    held_of (answer_adds j s granted d ++ fs) i ≡ held_of fs i
answer_stays vc fs j s i true other PassBack is = refl
answer_stays vc fs j s i false other PassBack is = elim (cases_eq j i) [
  | inr differ ↦ shut_other fs s j i differ
  | inl same ↦ absurd (other refl same (sym (decided_back_pass vc fs j s false is)))
]
answer_stays vc fs j s i true other (DropBack cause) is = refl
answer_stays vc fs j s i false other (DropBack cause) is = refl

-- a source that is down adds nothing
up_stays : (fs : List Fact) (e : Event) (o : Outcome) (st : SourceState) (i : ℕ) → Stays i fs e o → Stays i fs e (if_up st o)
up_stays fs e o Down i same = rw (down_adds fs e IsDown) refl
up_stays fs e o Idle i same = same
up_stays fs e o (Asking s) i same = same

ask_stays : (k : Route) (fs : List Fact) → IsLawful k fs → (vc : Channel) (c r i : ℕ) (plan : StorePlan) → Stays i fs (Ask c r plan) (ask_answer vc fs r plan)
ask_stays k fs lawful vc c r i Works =
    let P : Outcome → Type 0 = Stays i fs (Ask c r Works) in
    cond_both (last_of fs == number_max) _ _ P (λ e. refl)
    (λ e. kept_cases P (writes fs r) Works (next_request vc fs r) (asked_holds k fs lawful (min (rate_of fs) r) r (emitted_of fs) (writes fs r) (written_for fs r) i) (λ does. refl))
ask_stays k fs lawful vc c r i FailsBefore =
    let P : Outcome → Type 0 = Stays i fs (Ask c r FailsBefore) in
    cond_both (last_of fs == number_max) _ _ P (λ e. refl)
    (λ e. kept_cases P (writes fs r) FailsBefore (next_request vc fs r) (asked_holds k fs lawful (min (rate_of fs) r) r (emitted_of fs) (writes fs r) (written_for fs r) i) (λ does. refl))
ask_stays k fs lawful vc c r i FailsAfter =
    let P : Outcome → Type 0 = Stays i fs (Ask c r FailsAfter) in
    cond_both (last_of fs == number_max) _ _ P (λ e. refl)
    (λ e. kept_cases P (writes fs r) FailsAfter (next_request vc fs r) (asked_holds k fs lawful (min (rate_of fs) r) r (emitted_of fs) (writes fs r) (written_for fs r) i) (λ does. refl))

-- no other event adds what a hop keeps, whatever it answers
start_stays : (fs : List Fact) (c now i : ℕ) (o : Outcome) → Stays i fs (Start c now) o
start_stays fs c now i Started = refl
start_stays fs c now i o = refl

crash_stays : (fs : List Fact) (c i : ℕ) (o : Outcome) → Stays i fs (Crash c) o
crash_stays fs c i Crashed = refl
crash_stays fs c i o = refl

emit_stays : (fs : List Fact) (c now i : ℕ) (o : Outcome) → Stays i fs (Emit c now) o
emit_stays fs c now i (Emitted cell next) = refl
emit_stays fs c now i o = refl

arrive_stays : (fs : List Fact) (c cell at i : ℕ) (o : Outcome) → Stays i fs (Arrive c cell at) o
arrive_stays fs c cell at i (Arrived verdict) = refl
arrive_stays fs c cell at i o = refl

turn_stays : (fs : List Fact) (c s i : ℕ) (o : Outcome) → Stays i fs (Turn c s) o
turn_stays fs c s i Turned = refl
turn_stays fs c s i o = refl

told_stays : (fs : List Fact) (c s i : ℕ) (granted : Bool) (o : Outcome) → Stays i fs (Told c s granted) o
told_stays fs c s i granted (HasTold Raised) = refl
told_stays fs c s i granted (HasTold Refused) = refl
told_stays fs c s i granted o = refl

owner_is : (c d : ℕ) → Some c ≡ Some d → c ≡ d
owner_is c d e = cc

step_stays : (conn : Conn) (reserved capacity : ℕ) (fs : List Fact) → IsLawful (route_of conn) fs → (c i : ℕ) (e : Event) → conn_of e ≡ Some c → ¬ CanChangeHold fs c i e →
    Stays i fs e (answer_by conn reserved capacity fs e)
step_stays conn reserved capacity fs lawful c i (Start d now) own never = start_stays fs d now i (answer_by conn reserved capacity fs (Start d now))
step_stays conn reserved capacity fs lawful c i (Crash d) own never = crash_stays fs d i (answer_by conn reserved capacity fs (Crash d))
step_stays conn reserved capacity fs lawful c i (Emit d now) own never = emit_stays fs d now i (answer_by conn reserved capacity fs (Emit d now))
step_stays conn reserved capacity fs lawful c i (Arrive d cell at) own never = arrive_stays fs d cell at i (answer_by conn reserved capacity fs (Arrive d cell at))
step_stays conn reserved capacity fs lawful c i (Turn d s) own never = turn_stays fs d s i (answer_by conn reserved capacity fs (Turn d s))
step_stays conn reserved capacity fs lawful c i (Told d s granted) own never = told_stays fs d s i granted (answer_by conn reserved capacity fs (Told d s granted))
step_stays conn reserved capacity fs lawful c i (Again d) own never = refl
step_stays conn reserved capacity fs lawful c i (Capacity p u) own never = refl
step_stays conn reserved capacity fs lawful c i (Ask d r plan) own never = up_stays fs (Ask d r plan) _ (state_of fs) i (ask_stays (route_of conn) fs lawful conn.vc d r i plan)
step_stays conn reserved capacity fs lawful c i (Request d j s) own never =
    let k = route_of conn in
    let mine = owner_is d c own in
    cond_both (not (is_hop (length conn.path) j)) _ _ (Stays i fs (Request d j s)) (λ e. refl)
    (λ e. (
    let hop = is_hop_tells (length conn.path) j (not-false _ e) in
    cond_both (not (request_is_at fs s j)) _ _ (Stays i fs (Request d j s)) (λ e2. refl)
    (λ e2. (
    let number = (asked_last k fs lawful).1 s (at_asked k fs lawful s j (request_at_tells fs s j hop.0 (not-false _ e2))) in
    let some : s ≢ 0 = λ z. omega arith in
    request_stays k conn.vc fs lawful reserved capacity j s i some (λ here above. never (mine, here, subst (λ q. newest_of fs q < s) here above)) _ refl))))
step_stays conn reserved capacity fs lawful c i (Answer d j s true) own never =
    cond_both (not (is_hop (length conn.path) j)) _ _ (Stays i fs (Answer d j s true)) (λ e. refl)
    (λ e. cond_both (not (answer_is_at (length conn.path) fs s j true)) _ _ (Stays i fs (Answer d j s true)) (λ e2. refl)
    (λ e2. answer_stays conn.vc fs j s i true (λ no. absurd (cc)) _ refl))
step_stays conn reserved capacity fs lawful c i (Answer d j s false) own never =
    let mine = owner_is d c own in
    cond_both (not (is_hop (length conn.path) j)) _ _ (Stays i fs (Answer d j s false)) (λ e. refl)
    (λ e. cond_both (not (answer_is_at (length conn.path) fs s j false)) _ _ (Stays i fs (Answer d j s false)) (λ e2. refl)
    (λ e2. answer_stays conn.vc fs j s i false (λ no here same. never (mine, here, subst (λ q. s ≡ newest_of fs q) here same)) _ refl))

pub every_hold_stays : EveryPast HoldsStay
every_hold_stays net events rules rates e c i never =
    let past = facts_after net events in
    let lawful = (facts_after_lawful net events rates).0 in
    let fs = facts_of c past in
    elim (conn_cases e c) [
      | inr differ ↦ ap (λ (l : List Fact). held_of l i) (facts_of-other net past e c differ)
      | inl own ↦ elim (cases_option (conn_at net c)) [
        | inl unknown ↦ ap (λ (v : Past). held_of (facts_of c v) i) (after_event-unknown net past e c own unknown)
        | inr known ↦ (
            let conn = known.0 in
            let is = facts_of-own net past e c own ∙ ap (λ (o : Outcome). facts_added fs e o ++ fs) (outcome_of-known net past e c conn own known.1) in
            ap (λ (l : List Fact). held_of l i) is ∙ step_stays conn (reserved_on net past (port_of conn.path e)) (capacity_of net past (port_of conn.path e)) fs (lawful_at net past lawful c conn known.1) c i e own never)
      ]
    ]
