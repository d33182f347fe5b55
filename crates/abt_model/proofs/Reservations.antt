-- What a hop reserves follows the facts.
use Rattle.std.proofs.Common.{◌≡◌, ◌≢◌, ℕ, ◌+◌, ◌-◌, ◌≤◌, inl, inr, refl, ap, Bool, true, false, List, [], ◌∷◌, ◌++◌, ◌∙◌, sym, arith}
use Rattle.std.specs.Prelude.{◌&&◌, ◌==◌, not, if◌then◌else◌, nat_lt, nat_le}
use Rattle.std.proofs.lemmas.Bool.{ne_eqb, eq-eqb, cond-false, cond-true, false_from_ne_true, and_from, and_right, cond_both}
use Rattle.abt_facts.specs.declared.fact.Fact.{Fact}
use Rattle.abt_facts.specs.declared.fact.Fact.TheVariants.{Delivered, Passed, Shut}
use Rattle.abt_node.specs.declared.reply.Onward.{Onward}
use Rattle.abt_node.specs.declared.reply.Onward.TheVariants.{Pass, Refuse, Drop}
use Rattle.abt_node.specs.declared.reply.DropCause.TheVariants.{Stale, Conflict, FloorAbove}
use Rattle.abt_facts.specs.Requests.{floor_of, ask_of}
use Rattle.abt_facts.specs.Sent.{was_shut}
use Rattle.abt_facts.specs.Hop.{newest_of, is_open_at}
use Rattle.abt_cell.specs.Message.{Terms}
use Rattle.abt_cell.specs.Channel.{Channel}
use Rattle.abt_source.specs.SourceFacts.{request_of}
use Rattle.abt_model.specs.Outcomes.{delivery, request_adds}
use Rattle.abt_model.specs.Decision.{reservation_at}
use Rattle.abt_node.specs.Reservation.{Reservation, held_by, decided_as, pass_or_refuse, is_of, decision_of}
use Rattle.abt_model.proofs.Holds.{shut_other_same, newest_above, shut_there}
use Rattle.abt_model.proofs.Decisions.{held_by-held, closed_shut, decided, decided_pass, decided_refuse}
use Rattle.abt_model.proofs.Lawful.{Route, IsLawful}
use Rattle.abt_model.proofs.Cases.{shut_more, shut_newest}

-- ---- the decision of a port is that by the facts

-- what is reserved after an answer to a request; `equal`: its number was the newest already
abbrev pub reserved_after : Bool → Reservation → Terms → Onward → Reservation
reserved_after equal r q Pass = if equal then r else decided_as true q
reserved_after equal r q (Refuse answer) = if equal then r else decided_as false q
reserved_after equal r q (Drop cause) = r

node_leaves : (below equal same above fits open_there : Bool) (r : Reservation) (q : Terms) →
    (let out : Onward × Reservation =
    if below then (Drop Stale, r)
    else if equal then (if same then (pass_or_refuse open_there q, r) else (Drop Conflict, r))
    else if above then (Drop FloorAbove, r)
    else (pass_or_refuse fits q, decided_as fits q) in
    out.1 ≡ reserved_after equal r q out.0)
node_leaves true equal same above fits open_there r q = refl
node_leaves false true true above fits true r q = refl
node_leaves false true true above fits false r q = refl
node_leaves false true false above fits open_there r q = refl
node_leaves false false same true fits open_there r q = refl
node_leaves false false same false true open_there r q = refl
node_leaves false false same false false open_there r q = refl

-- the node's decision at a hop
abbrev pub hop_decision : Channel → List Fact → (reserved capacity j s : ℕ) → Onward × Reservation
hop_decision vc fs reserved capacity j s =
    decision_of capacity (reserved - held_by (reservation_at fs j)) (reservation_at fs j) (request_of vc fs s)

pub hop_decision-decided : (l : Route) (vc : Channel) (fs : List Fact) → IsLawful l fs → (reserved capacity j s : ℕ) →
    (hop_decision vc fs reserved capacity j s).0 ≡ decided vc fs reserved capacity j s
hop_decision-decided l vc fs lawful reserved capacity j s =
    ap (λ (h : ℕ). (decision_of capacity (reserved - h) (reservation_at fs j) (request_of vc fs s)).0) (held_by-held l fs lawful j)

hop_decision-leaves : (vc : Channel) (fs : List Fact) (reserved capacity j s : ℕ) →
    (hop_decision vc fs reserved capacity j s).1 ≡ reserved_after (s == newest_of fs j) (reservation_at fs j) (request_of vc fs s) (hop_decision vc fs reserved capacity j s).0
hop_decision-leaves vc fs reserved capacity j s =
    let m = newest_of fs j in
    node_leaves (nat_lt s m) (s == m) (is_of (reservation_at fs j) (request_of vc fs s)) (nat_lt (held_by (reservation_at fs j)) (floor_of fs s))
    (nat_le (reserved - held_by (reservation_at fs j) + ask_of fs s) capacity) (is_open_at fs j) (reservation_at fs j) (request_of vc fs s)

-- ---- what is reserved after one more fact

abbrev pub reserved_as : List Fact → Bool → ℕ → Reservation
reserved_as fs b m = record { newest = m; floor = floor_of fs m; ask = ask_of fs m; is_open = not (m == 0) && not b }

passed_as : (fs : List Fact) (s j i n : ℕ) → newest_of (Passed s j ∷ fs) i ≡ n → reservation_at (Passed s j ∷ fs) i ≡ reserved_as fs (was_shut fs n i) n
passed_as fs s j i n e = ap (λ (m : ℕ). reserved_as fs (was_shut fs m i) m) e

pub shut_as : (fs : List Fact) (s j i n : ℕ) → newest_of (Shut s j ∷ fs) i ≡ n → reservation_at (Shut s j ∷ fs) i ≡ reserved_as fs (was_shut (Shut s j ∷ fs) n i) n
shut_as fs s j i n e = ap (λ (m : ℕ). reserved_as fs (was_shut (Shut s j ∷ fs) m i) m) e

delivered_as : (s j : ℕ) (fs : List Fact) (i : ℕ) (row : Reservation) (gs : List Fact) → reservation_at (gs ++ fs) i ≡ row → reservation_at (gs ++ (Delivered s ∷ fs)) i ≡ row → reservation_at (gs ++ (delivery j s ++ fs)) i ≡ row
delivered_as s j fs i row gs a b = cond_both (j == 1) (Delivered s ∷ []) [] (λ (l : List Fact). reservation_at (gs ++ (l ++ fs)) i ≡ row) (λ e. b) (λ e. a)

pub shut_elsewhere : (fs : List Fact) (s j i : ℕ) → j ≢ i → reservation_at (Shut s j ∷ fs) i ≡ reservation_at fs i
shut_elsewhere fs s j i differ =
    let e : newest_of (Shut s j ∷ fs) i ≡ newest_of fs i = cond-false _ _ _ (ne_eqb j i differ) in
    shut_as fs s j i (newest_of fs i) e ∙ ap (λ (b : Bool). reserved_as fs b (newest_of fs i)) (shut_other_same fs s j (newest_of fs i) i differ)

-- another hop's stays
pub reservation_other : (fs : List Fact) (s j i : ℕ) → j ≢ i → (d : Onward) → reservation_at (request_adds j s d ++ fs) i ≡ reservation_at fs i
reservation_other fs s j i differ Pass =
    let e : newest_of (Passed s j ∷ fs) i ≡ newest_of fs i = cond-false _ _ _ (ne_eqb j i differ) in
    let r = passed_as fs s j i (newest_of fs i) e in
    delivered_as s j fs i (reservation_at fs i) (Passed s j ∷ []) r r
reservation_other fs s j i differ (Refuse answer) =
    let r = shut_elsewhere fs s j i differ in
    delivered_as s j fs i (reservation_at fs i) (Shut s j ∷ []) r r
reservation_other fs s j i differ (Drop cause) = delivered_as s j fs i (reservation_at fs i) [] refl refl

-- the hop's own, after a request
reservation_request : (l : Route) (vc : Channel) (fs : List Fact) → IsLawful l fs → (reserved capacity j s : ℕ) → 1 ≤ s → (d : Onward) → decided vc fs reserved capacity j s ≡ d →
    reservation_at (request_adds j s d ++ fs) j ≡ reserved_after (s == newest_of fs j) (reservation_at fs j) (request_of vc fs s) d
reservation_request l vc fs lawful reserved capacity j s some Pass e =
    elim (decided_pass l vc fs lawful reserved capacity j s e) [
      | inl above ↦ (
          let fresh : was_shut fs s j ≡ false = false_from_ne_true _ (λ t. (let low = shut_newest s j fs t in omega arith)) in
          let opened : (not (s == 0) && not (was_shut fs s j)) ≡ true = and_from _ _ (ap not (ne_eqb s 0 (λ z. omega arith))) (ap not fresh) in
          let r : reservation_at (Passed s j ∷ fs) j ≡ decided_as true (request_of vc fs s) =
          passed_as fs s j j s (newest_above fs s j (omega arith)) ∙ ap (λ (b : Bool). record { newest = s; floor = floor_of fs s; ask = ask_of fs s; is_open = b }) opened in
          let w = r ∙ sym (cond-false _ _ _ (ne_eqb s (newest_of fs j) (λ z. omega arith))) in
          delivered_as s j fs j _ (Passed s j ∷ []) w w)
      | inr equal ↦ (
          let r : reservation_at (Passed s j ∷ fs) j ≡ reservation_at fs j = passed_as fs s j j (newest_of fs j) (newest_above fs s j (omega arith) ∙ sym equal.0) in
          let w = r ∙ sym (cond-true _ _ _ (eq-eqb s (newest_of fs j) (sym equal.0))) in
          delivered_as s j fs j _ (Passed s j ∷ []) w w)
    ]
reservation_request l vc fs lawful reserved capacity j s some (Refuse answer) e =
    elim (decided_refuse l vc fs lawful reserved capacity j s answer e) [
      | inl above ↦ (
          let closed : (not (s == 0) && not (was_shut (Shut s j ∷ fs) s j)) ≡ false = and_right _ _ (ap not (shut_there fs s j)) in
          let r : reservation_at (Shut s j ∷ fs) j ≡ decided_as false (request_of vc fs s) =
          shut_as fs s j j s (newest_above fs s j (omega arith)) ∙ ap (λ (b : Bool). record { newest = s; floor = floor_of fs s; ask = ask_of fs s; is_open = b }) closed in
          let w = r ∙ sym (cond-false _ _ _ (ne_eqb s (newest_of fs j) (λ z. omega arith))) in
          delivered_as s j fs j _ (Shut s j ∷ []) w w)
      | inr equal ↦ (
          let m = newest_of fs j in
          let n : newest_of (Shut s j ∷ fs) j ≡ m = newest_above fs s j (omega arith) ∙ sym equal.0 in
          let shut : was_shut fs m j ≡ true = closed_shut fs j (λ z. omega (arith, equal.0)) equal.1 in
          let both : was_shut (Shut s j ∷ fs) m j ≡ was_shut fs m j = shut_more m j (Shut s j) fs shut ∙ sym shut in
          let r : reservation_at (Shut s j ∷ fs) j ≡ reservation_at fs j = shut_as fs s j j m n ∙ ap (λ (b : Bool). reserved_as fs b m) both in
          let w = r ∙ sym (cond-true _ _ _ (eq-eqb s m (sym equal.0))) in
          delivered_as s j fs j _ (Shut s j ∷ []) w w)
    ]
reservation_request l vc fs lawful reserved capacity j s some (Drop cause) e = delivered_as s j fs j _ [] refl refl

-- the reply to a request, and what is reserved then, are those of the node
pub request_reserved : (l : Route) (vc : Channel) (fs : List Fact) → IsLawful l fs → (reserved capacity j s : ℕ) → 1 ≤ s →
    (hop_decision vc fs reserved capacity j s).1 ≡ reservation_at (request_adds j s (decided vc fs reserved capacity j s) ++ fs) j
request_reserved l vc fs lawful reserved capacity j s some =
    hop_decision-leaves vc fs reserved capacity j s
    ∙ ap (reserved_after (s == newest_of fs j) (reservation_at fs j) (request_of vc fs s)) (hop_decision-decided l vc fs lawful reserved capacity j s)
    ∙ sym (reservation_request l vc fs lawful reserved capacity j s some _ refl)
