-- What is shut asked for more than its floor, so no decrease is shut.
use Rattle.std.proofs.Common.{◌≡◌, ℕ, ◌+◌, ◌-◌, ◌≤◌, ◌<◌, inl, inr, refl, Bool, true, false, List, [], ◌∷◌, ◌++◌, length, sym, subst, arith}
use Rattle.std.specs.Prelude.{◌==◌, not}
use Rattle.std.proofs.lemmas.Bool.{cond_both, not-false, and_parts}
use Rattle.abt_cell.specs.Channel.{Channel}
use Rattle.abt_cell.specs.Message.{Reply}
use Rattle.abt_keep.specs.Record.{KeptRecord}
use Rattle.abt_node.specs.declared.reply.Onward.{Onward}
use Rattle.abt_node.specs.declared.reply.Onward.TheVariants.{Pass, Refuse, Drop}
use Rattle.abt_node.specs.declared.reply.Back.{Back as Returned}
use Rattle.abt_node.specs.declared.reply.Back.TheVariants.{Pass as PassBack, Drop as DropBack}
use Rattle.abt_node.specs.Rule.{IsDecision}
use Rattle.abt_node.proofs.RuleLemmas.{decision_of-IsDecision}
use Rattle.abt_net.specs.declared.conn.Conn.{Conn}
use Rattle.abt_facts.specs.declared.fact.Fact.{Fact}
use Rattle.abt_facts.specs.declared.fact.Fact.TheVariants.{Delivered, Passed, Shut, Back}
use Rattle.abt_facts.specs.Requests.{floor_of, ask_of}
use Rattle.abt_facts.specs.Source.{last_of, writes, written_for}
use Rattle.abt_facts.specs.Sent.{was_shut, request_is_at, answer_is_at}
use Rattle.abt_facts.specs.Hop.{newest_of, held_of}
use Rattle.abt_source.specs.SourceFacts.{request_of}
use Rattle.abt_model.specs.declared.event.Event.{Event}
use Rattle.abt_model.specs.declared.event.Event.TheVariants.{Start, Ask, Again, Crash, Emit, Arrive, Request, Turn, Answer, Told, Capacity}
use Rattle.abt_model.specs.declared.outcome.Outcome.{Outcome}
use Rattle.abt_model.specs.declared.outcome.Outcome.TheVariants.{Started, Asked as HasAsked, AskRefused, Crashed, Emitted, Arrived, Turned, Told as HasTold}
use Rattle.abt_model.specs.declared.outcome.Heard.TheVariants.{Raised, Refused}
use Rattle.abt_keep.specs.declared.plan.StorePlan.TheVariants.{FailsAfter}
use Rattle.abt_source.specs.declared.fault.AskFault.TheVariants.{Keep}
use Rattle.abt_model.specs.Events.{AsksRate}
use Rattle.abt_model.specs.Targets.{target_of, hop_in}
use Rattle.abt_model.specs.Decision.{reservation_at}
use Rattle.abt_model.specs.Answers.{is_hop, answer_by}
use Rattle.abt_model.specs.Outcomes.{delivery, request_adds, answer_adds, write_adds, facts_added}
use Rattle.abt_model.proofs.Cases.{shut_cases}
use Rattle.abt_model.proofs.Chain.{at_asked, shut_at, asked_last, floor_more, ask_more}
use Rattle.abt_model.proofs.Decisions.{held_by-held, decided, closed_shut}
use Rattle.abt_model.proofs.Lawful.{Route, route_of, IsLawful}
use Rattle.abt_model.proofs.Steps.{is_hop_tells, request_at_tells, step_lawful}

-- what was shut asked for more than its floor
abbrev pub ShutsRise : List Fact → Type 0
ShutsRise fs = (s j : ℕ) → was_shut fs s j ≡ true → floor_of fs s < ask_of fs s

-- what was shut was asked, so it is at most the last number
shut_last : (k : Route) (fs : List Fact) → IsLawful k fs → (s j : ℕ) → was_shut fs s j ≡ true → s ≤ last_of fs
shut_last k fs lawful s j h = ((asked_last k fs lawful).1 s (at_asked k fs lawful s j (shut_at k fs lawful s j h).0)).1

-- one more fact keeps it, unless it shuts a number that asked for its floor
rise_more : (k : Route) (f : Fact) (fs : List Fact) → IsLawful k (f ∷ fs) → ((s j : ℕ) → f ≡ Shut s j → floor_of fs s < ask_of fs s) → ShutsRise fs → ShutsRise (f ∷ fs)
rise_more k f fs lawful fresh old s j h = elim (shut_cases s j f fs h) [
  | inl e ↦ rw e (fresh s j e)
  | inr t ↦ (
      let last = shut_last k fs lawful.1 s j t in
      let rise = old s j t in
      omega (arith, floor_more k f fs lawful.0 s last, ask_more k f fs lawful.0 s last, rise))
]

-- none of these facts shuts anything
NoShuts : List Fact → Type 0
NoShuts [] = Unit {0}
NoShuts (Shut s j ∷ fs) = ⊥
NoShuts (f ∷ fs) = NoShuts fs

first_unshut : (f : Fact) (fs : List Fact) → NoShuts (f ∷ fs) → (s j : ℕ) → f ≡ Shut s j → ⊥
unfolding NoShuts
first_unshut f fs none s j e = subst (λ g. NoShuts (g ∷ fs)) e none

others_unshut : (f : Fact) (fs : List Fact) → NoShuts (f ∷ fs) → NoShuts fs
unfolding NoShuts
others_unshut (Shut s j) fs none = absurd none
others_unshut f fs none = none

rise_unshut : (k : Route) (added fs : List Fact) → NoShuts added → IsLawful k (added ++ fs) → ShutsRise fs → ShutsRise (added ++ fs)
rise_unshut k [] fs none lawful old = old
rise_unshut k (f ∷ added) fs none lawful old =
    rise_more k f (added ++ fs) lawful (λ s j e. absurd (first_unshut f added none s j e))
    (rise_unshut k added fs (others_unshut f added none) lawful.1 old)

-- events that come to a hop with a message can shut something, and no others
abbrev IsApart : Event → Type 0
IsApart (Request c j s) = ⊥
IsApart (Answer c j s granted) = ⊥
IsApart e = Unit {0}

write_unshut : (b : Bool) (kept : KeptRecord) → NoShuts (write_adds b kept)
unfolding NoShuts
write_unshut true kept = tt
write_unshut false kept = tt

apart_unshut : (fs : List Fact) (e : Event) (o : Outcome) → IsApart e → NoShuts (facts_added fs e o)
unfolding NoShuts
apart_unshut fs (Request c j s) o apart = absurd apart
apart_unshut fs (Answer c j s granted) o apart = absurd apart
apart_unshut fs (Ask c r plan) (HasAsked request) apart = write_unshut (writes fs r) (written_for fs r)
apart_unshut fs (Ask c r FailsAfter) (AskRefused Keep) apart = tt
apart_unshut fs (Ask c r plan) o apart = tt
apart_unshut fs (Start c now) Started apart = tt
apart_unshut fs (Start c now) o apart = tt
apart_unshut fs (Crash c) Crashed apart = tt
apart_unshut fs (Crash c) o apart = tt
apart_unshut fs (Emit c now) (Emitted cell next) apart = tt
apart_unshut fs (Emit c now) o apart = tt
apart_unshut fs (Arrive c cell at) (Arrived verdict) apart = tt
apart_unshut fs (Arrive c cell at) o apart = tt
apart_unshut fs (Turn c s) Turned apart = tt
apart_unshut fs (Turn c s) o apart = tt
apart_unshut fs (Told c s granted) (HasTold Raised) apart = tt
apart_unshut fs (Told c s granted) (HasTold Refused) apart = tt
apart_unshut fs (Told c s granted) o apart = tt
apart_unshut fs (Again c) o apart = tt
apart_unshut fs (Capacity p u) o apart = tt

apart_rises : (conn : Conn) (fs : List Fact) (e : Event) (o : Outcome) → IsApart e → IsLawful (route_of conn) (facts_added fs e o ++ fs) → ShutsRise fs → ShutsRise (facts_added fs e o ++ fs)
apart_rises conn fs e o apart lawful old = rise_unshut (route_of conn) (facts_added fs e o) fs (apart_unshut fs e o apart) lawful old

-- a hop that is refused a request asked for more than its floor: what it holds and others hold is within the capacity, and the floor is held
refused_rises : (k : Route) (vc : Channel) (fs : List Fact) → IsLawful k fs → ShutsRise fs → (reserved capacity j s : ℕ) (answer : Reply) → 1 ≤ s → held_of fs j ≤ reserved → reserved ≤ capacity →
    decided vc fs reserved capacity j s ≡ Refuse answer → floor_of fs s < ask_of fs s
refused_rises k vc fs lawful old reserved capacity j s answer some mine within e =
    let is = subst (IsDecision capacity (reserved - held_of fs j) (reservation_at fs j) (request_of vc fs s)) e
    (decision_of-IsDecision capacity (reserved - held_of fs j) (reservation_at fs j) (request_of vc fs s)) in
    elim is.1 [
      | inl again ↦ (
          let same : s ≡ newest_of fs j = again.0.number in
          let closed = closed_shut fs j (λ z. omega arith) again.1 in
          subst (λ n. floor_of fs n < ask_of fs n) (sym same) (old (newest_of fs j) j closed))
      | inr over ↦ omega (arith, over.0.floor, over.1, held_by-held k fs lawful j)
    ]

delivery_unshut : (j s : ℕ) → NoShuts (delivery j s)
unfolding NoShuts
delivery_unshut j s = cond_both (j == 1) (Delivered s ∷ []) [] NoShuts (λ e. tt) (λ e. tt)

passed_unshut : (j s : ℕ) → NoShuts (Passed s j ∷ delivery j s)
unfolding NoShuts
passed_unshut j s = delivery_unshut j s

-- what came to a hop was asked as it was
delivery_terms : (j s : ℕ) (fs : List Fact) → floor_of fs s < ask_of fs s → floor_of (delivery j s ++ fs) s < ask_of (delivery j s ++ fs) s
delivery_terms j s fs rise = cond_both (j == 1) (Delivered s ∷ []) [] (λ (l : List Fact). floor_of (l ++ fs) s < ask_of (l ++ fs) s) (λ e. rise) (λ e. rise)

request_rises : (k : Route) (vc : Channel) (fs : List Fact) → IsLawful k fs → ShutsRise fs → (reserved capacity j s : ℕ) → 1 ≤ s → held_of fs j ≤ reserved → reserved ≤ capacity → (d : Onward) →
    decided vc fs reserved capacity j s ≡ d → IsLawful k (request_adds j s d ++ fs) → ShutsRise (request_adds j s d ++ fs)
request_rises k vc fs lawful old reserved capacity j s some mine within Pass e new = rise_unshut k (Passed s j ∷ delivery j s) fs (passed_unshut j s) new old
request_rises k vc fs lawful old reserved capacity j s some mine within (Refuse answer) e new =
    let rise = refused_rises k vc fs lawful old reserved capacity j s answer some mine within e in
    rise_more k (Shut s j) (delivery j s ++ fs) new (λ t i is. (let same : s ≡ t = cc in subst (λ n. floor_of (delivery j s ++ fs) n < ask_of (delivery j s ++ fs) n) same (delivery_terms j s fs rise)))
    (rise_unshut k (delivery j s) fs (delivery_unshut j s) new.1 old)
request_rises k vc fs lawful old reserved capacity j s some mine within (Drop cause) e new = rise_unshut k (delivery j s) fs (delivery_unshut j s) new old

shut_number : (s j t i : ℕ) → Shut s j ≡ Shut t i → s ≡ t
shut_number s j t i e = cc

answer_rises : (k : Route) (fs : List Fact) → ShutsRise fs → (j s : ℕ) (granted : Bool) → answer_is_at k.hops fs s j granted ≡ true → (d : Returned) →
    IsLawful k (answer_adds j s granted d ++ fs) → ShutsRise (answer_adds j s granted d ++ fs)
answer_rises k fs old j s true at PassBack new = rise_more k (Back s j) fs new (λ t i is. absurd (cc)) old
answer_rises k fs old j s false at PassBack new =
    let rise : floor_of fs s < ask_of fs s = old s (j + 1) (and_parts _ _ at).1 in
    rise_more k (Shut s j) fs new (λ t i is. subst (λ n. floor_of fs n < ask_of fs n) (shut_number s j t i is) rise) old
answer_rises k fs old j s true at (DropBack cause) new = old
answer_rises k fs old j s false at (DropBack cause) new = old

-- an event keeps it, where what is reserved on the port that it comes to is within the capacity, and has what its connection holds there
pub step_rises : (conn : Conn) (reserved capacity : ℕ) (fs : List Fact) → IsLawful (route_of conn) fs → (e : Event) → AsksRate e → reserved ≤ capacity →
    (1 ≤ hop_in (target_of e) → hop_in (target_of e) ≤ length conn.path → held_of fs (hop_in (target_of e)) ≤ reserved) →
    ShutsRise fs → ShutsRise (facts_added fs e (answer_by conn reserved capacity fs e) ++ fs)
step_rises conn reserved capacity fs lawful (Request c j s) rate within mine old =
    let k = route_of conn in
    let new = step_lawful conn reserved capacity fs lawful (Request c j s) rate in
    let P : Outcome → Type 0 = λ o. IsLawful k (facts_added fs (Request c j s) o ++ fs) → ShutsRise (facts_added fs (Request c j s) o ++ fs) in
    (cond_both (not (is_hop (length conn.path) j)) _ _ P (λ e n. old)
    (λ e. (
    let hop = is_hop_tells (length conn.path) j (not-false _ e) in
    cond_both (not (request_is_at fs s j)) _ _ P (λ e2 n. old)
    (λ e2 n. (
    let asked = at_asked k fs lawful s j (request_at_tells fs s j hop.0 (not-false _ e2)) in
    let number = (asked_last k fs lawful).1 s asked in
    request_rises k conn.vc fs lawful old reserved capacity j s number.0 (mine hop.0 hop.1) within _ refl n))))) new
step_rises conn reserved capacity fs lawful (Answer c j s granted) rate within mine old =
    let k = route_of conn in
    let new = step_lawful conn reserved capacity fs lawful (Answer c j s granted) rate in
    let P : Outcome → Type 0 = λ o. IsLawful k (facts_added fs (Answer c j s granted) o ++ fs) → ShutsRise (facts_added fs (Answer c j s granted) o ++ fs) in
    (cond_both (not (is_hop (length conn.path) j)) _ _ P (λ e n. old)
    (λ e. cond_both (not (answer_is_at (length conn.path) fs s j granted)) _ _ P (λ e2 n. old)
    (λ e2 n. answer_rises k fs old j s granted (not-false _ e2) _ n))) new
step_rises conn reserved capacity fs lawful e rate within mine old = apart_rises conn fs e (answer_by conn reserved capacity fs e) tt (step_lawful conn reserved capacity fs lawful e rate) old
