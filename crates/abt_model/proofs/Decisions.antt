-- What the decisions of a hop tell, by the rule of its port.
use Rattle.std.proofs.Common.{◌≡◌, ◌≢◌, ℕ, ◌+◌, ◌-◌, ◌≤◌, ◌<◌, ◌⊎◌, inl, inr, ap, Bool, true, false, List, ◌∙◌, sym, subst, arith}
use Rattle.std.specs.Prelude.{◌&&◌, not, if◌then◌else◌}
use Rattle.std.proofs.lemmas.Bool.{ne_eqb, eq-eqb, cond-false, cond-true, cases_Bool, cases_eq, and_parts, not-false, not-true}
use Rattle.abt_facts.specs.declared.fact.Fact.{Fact}
use Rattle.abt_node.specs.declared.reply.Onward.{Onward}
use Rattle.abt_node.specs.declared.reply.Onward.TheVariants.{Pass, Refuse}
use Rattle.abt_node.specs.declared.reply.Back.{Back as Returned}
use Rattle.abt_node.specs.declared.reply.Back.TheVariants.{Pass as PassBack}
use Rattle.abt_node.specs.Reservation.{held_by}
use Rattle.abt_node.specs.Rule.{IsDecision, IsAnswered}
use Rattle.abt_node.proofs.RuleLemmas.{decision_of-IsDecision, answer_of-IsAnswered}
use Rattle.abt_cell.specs.Channel.{Channel}
use Rattle.abt_cell.specs.Message.{Reply, answer_to}
use Rattle.abt_facts.specs.Requests.{floor_of, ask_of}
use Rattle.abt_facts.specs.Sent.{was_shut}
use Rattle.abt_facts.specs.Hop.{newest_of, held_of, is_open_at}
use Rattle.abt_source.specs.SourceFacts.{request_of}
use Rattle.abt_model.specs.Decision.{reservation_at, request_decision, answer_decision}
use Rattle.abt_model.proofs.Chain.{ask_zero, floor_low}
use Rattle.abt_model.proofs.Lawful.{Route, IsLawful}

-- what is reserved is held by the facts too
pub held_by-held : (l : Route) (fs : List Fact) → IsLawful l fs → (j : ℕ) → held_by (reservation_at fs j) ≡ held_of fs j
held_by-held l fs lawful j = elim (cases_eq (newest_of fs j) 0) [
  | inl z ↦ (
      let closed : is_open_at fs j ≡ false = ap (λ (b : Bool). not b && not (was_shut fs (newest_of fs j) j)) (eq-eqb _ _ z) in
      let a : held_by (reservation_at fs j) ≡ floor_of fs (newest_of fs j) = cond-false _ _ _ closed in
      let b : floor_of fs (newest_of fs j) ≡ floor_of fs 0 = ap (floor_of fs) z in
      let c : held_of fs j ≡ 0 = cond-true _ _ _ (eq-eqb _ _ z) in
      omega (arith, a, b, c, floor_low l fs lawful 0, ask_zero l fs lawful))
  | inr some ↦ (
      let m = newest_of fs j in
      let is : held_of fs j ≡ (if was_shut fs m j then floor_of fs m else ask_of fs m) = cond-false _ _ _ (ne_eqb _ _ some) in
      let op : is_open_at fs j ≡ not (was_shut fs m j) = ap (λ (b : Bool). not b && not (was_shut fs m j)) (ne_eqb _ _ some) in
      elim (cases_Bool (was_shut fs m j)) [
        | inl t ↦ cond-false _ _ _ (op ∙ ap not t) ∙ sym (is ∙ cond-true _ _ _ t)
        | inr f ↦ cond-true _ _ _ (op ∙ ap not f) ∙ sym (is ∙ cond-false _ _ _ f)
      ])
]

-- the decision on request s at hop j, by the facts
abbrev pub decided : Channel → List Fact → (reserved capacity j s : ℕ) → Onward
decided vc fs reserved capacity j s = request_decision fs reserved capacity j (request_of vc fs s)

abbrev pub decided_back : Channel → List Fact → (j s : ℕ) → Bool → Returned
decided_back vc fs j s granted = answer_decision fs j (answer_to (request_of vc fs s) granted)

-- it is by the rule
decided_by : (vc : Channel) (fs : List Fact) (reserved capacity j s : ℕ) (d : Onward) → decided vc fs reserved capacity j s ≡ d →
    IsDecision capacity (reserved - held_of fs j) (reservation_at fs j) (request_of vc fs s) d
decided_by vc fs reserved capacity j s d e =
    subst (IsDecision capacity (reserved - held_of fs j) (reservation_at fs j) (request_of vc fs s)) e
    (decision_of-IsDecision capacity (reserved - held_of fs j) (reservation_at fs j) (request_of vc fs s))

decided_back_by : (vc : Channel) (fs : List Fact) (j s : ℕ) (granted : Bool) (d : Returned) → decided_back vc fs j s granted ≡ d →
    IsAnswered (reservation_at fs j) (answer_to (request_of vc fs s) granted) d
decided_back_by vc fs j s granted d e =
    subst (IsAnswered (reservation_at fs j) (answer_to (request_of vc fs s) granted)) e
    (answer_of-IsAnswered (reservation_at fs j) (answer_to (request_of vc fs s) granted))

-- a number that is open isn't shut, and one that was decided and isn't open is
opened_unshut : (fs : List Fact) (j : ℕ) → is_open_at fs j ≡ true → was_shut fs (newest_of fs j) j ≡ false
opened_unshut fs j opened = not-true _ (and_parts _ _ opened).1

pub closed_shut : (fs : List Fact) (j : ℕ) → newest_of fs j ≢ 0 → is_open_at fs j ≡ false → was_shut fs (newest_of fs j) j ≡ true
closed_shut fs j some closed =
    let is : is_open_at fs j ≡ not (was_shut fs (newest_of fs j) j) = ap (λ (b : Bool). not b && not (was_shut fs (newest_of fs j) j)) (ne_eqb _ _ some) in
    not-false _ (sym is ∙ closed)

pub decided_pass : (l : Route) (vc : Channel) (fs : List Fact) → IsLawful l fs → (reserved capacity j s : ℕ) → decided vc fs reserved capacity j s ≡ Pass →
    ((newest_of fs j < s) × (floor_of fs s ≤ held_of fs j) × (reserved - held_of fs j + ask_of fs s ≤ capacity)) ⊎ ((newest_of fs j ≡ s) × (was_shut fs (newest_of fs j) j ≡ false))
decided_pass l vc fs lawful reserved capacity j s e = elim (decided_by vc fs reserved capacity j s Pass e) [
  | inl again ↦ inr (sym again.0.number, opened_unshut fs j again.1)
  | inr fits ↦ inl (fits.0.newer, omega (arith, fits.0.floor, held_by-held l fs lawful j), fits.1)
]

pub decided_refuse : (l : Route) (vc : Channel) (fs : List Fact) → IsLawful l fs → (reserved capacity j s : ℕ) (answer : Reply) → decided vc fs reserved capacity j s ≡ Refuse answer →
    ((newest_of fs j < s) × (floor_of fs s ≤ held_of fs j)) ⊎ ((newest_of fs j ≡ s) × (is_open_at fs j ≡ false))
decided_refuse l vc fs lawful reserved capacity j s answer e = elim (decided_by vc fs reserved capacity j s (Refuse answer) e).1 [
  | inl again ↦ inr (sym again.0.number, again.1)
  | inr over ↦ inl (over.0.newer, omega (arith, over.0.floor, held_by-held l fs lawful j))
]

pub decided_back_pass : (vc : Channel) (fs : List Fact) (j s : ℕ) (granted : Bool) → decided_back vc fs j s granted ≡ PassBack → newest_of fs j ≡ s
decided_back_pass vc fs j s granted e = sym (decided_back_by vc fs j s granted PassBack e).0.number
