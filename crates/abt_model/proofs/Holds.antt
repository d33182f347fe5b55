-- What a hop holds after one more fact.
use Rattle.std.proofs.Common.{◌≡◌, ◌≢◌, ℕ, ◌≤◌, ◌<◌, inl, inr, refl, ap, Bool, true, false, List, ◌∷◌, ◌∙◌, sym, arith}
use Rattle.std.specs.Prelude.{◌||◌, ◌==◌, if◌then◌else◌}
use Rattle.std.proofs.lemmas.Bool.{or_left, ne_eqb, eq-eqb, cond-false, cond-true, cases_Bool, cases_eq, false_from_ne_true, and_from, and_right}
use Rattle.abt_facts.specs.declared.fact.Fact.{Fact}
use Rattle.abt_facts.specs.declared.fact.Fact.TheVariants.{Passed, Shut}
use Rattle.abt_facts.specs.Requests.{floor_of, ask_of}
use Rattle.abt_facts.specs.Sent.{was_shut}
use Rattle.abt_facts.specs.Hop.{newest_of, reserved_for, held_of}
use Rattle.abt_model.proofs.Chain.{floor_low}
use Rattle.abt_model.proofs.Lawful.{Route, IsLawful}
use Rattle.abt_model.proofs.Cases.{shut_newest}

pub reserved_shut : (fs : List Fact) (j m : ℕ) → m ≢ 0 → was_shut fs m j ≡ true → reserved_for fs j m ≡ floor_of fs m
reserved_shut fs j m some h = cond-false _ _ _ (ne_eqb _ _ some) ∙ cond-true _ _ _ h

pub reserved_open : (fs : List Fact) (j m : ℕ) → m ≢ 0 → was_shut fs m j ≡ false → reserved_for fs j m ≡ ask_of fs m
reserved_open fs j m some h = cond-false _ _ _ (ne_eqb _ _ some) ∙ cond-false _ _ _ h

-- another hop's fact
pub passed_other : (fs : List Fact) (s j i : ℕ) → j ≢ i → held_of (Passed s j ∷ fs) i ≡ held_of fs i
passed_other fs s j i differ = let e : newest_of (Passed s j ∷ fs) i ≡ newest_of fs i = cond-false _ _ _ (ne_eqb j i differ) in ap (reserved_for fs i) e

pub shut_other_same : (fs : List Fact) (s j n i : ℕ) → j ≢ i → was_shut (Shut s j ∷ fs) n i ≡ was_shut fs n i
shut_other_same fs s j n i differ = ap (λ (b : Bool). b || was_shut fs n i) (and_right (s == n) (j == i) (ne_eqb j i differ))

pub shut_other : (fs : List Fact) (s j i : ℕ) → j ≢ i → held_of (Shut s j ∷ fs) i ≡ held_of fs i
shut_other fs s j i differ =
    let e : newest_of (Shut s j ∷ fs) i ≡ newest_of fs i = cond-false _ _ _ (ne_eqb j i differ) in
    ap (reserved_for (Shut s j ∷ fs) i) e
    ∙ ap (λ (b : Bool). if newest_of fs i == 0 then 0 else (if b then floor_of fs (newest_of fs i) else ask_of fs (newest_of fs i))) (shut_other_same fs s j (newest_of fs i) i differ)

-- a request that passes for the first time
pub newest_above : (fs : List Fact) (s j : ℕ) → newest_of fs j ≤ s → newest_of (Passed s j ∷ fs) j ≡ s
newest_above fs s j above = cond-true _ _ _ (eq-eqb j j refl) ∙ omega arith

pub passed_above : (fs : List Fact) (s j : ℕ) → newest_of fs j < s → held_of (Passed s j ∷ fs) j ≡ ask_of fs s
passed_above fs s j above =
    let fresh : was_shut fs s j ≡ false = false_from_ne_true _ (λ t. (let low = shut_newest s j fs t in omega arith)) in
    ap (reserved_for fs j) (newest_above fs s j (omega arith)) ∙ reserved_open fs j s (λ z. omega arith) fresh

pub passed_again : (fs : List Fact) (s j : ℕ) → newest_of fs j ≡ s → held_of (Passed s j ∷ fs) j ≡ held_of fs j
passed_again fs s j equal = ap (reserved_for fs j) (newest_above fs s j (omega arith) ∙ sym equal)

pub shut_there : (fs : List Fact) (s j : ℕ) → was_shut (Shut s j ∷ fs) s j ≡ true
shut_there fs s j = or_left _ _ (and_from _ _ (eq-eqb s s refl) (eq-eqb j j refl))

-- what is shut at its newest number is held at its floor
pub shut_now : (fs : List Fact) (s j : ℕ) → newest_of fs j ≤ s → s ≢ 0 → held_of (Shut s j ∷ fs) j ≡ floor_of fs s
shut_now fs s j above some = ap (reserved_for (Shut s j ∷ fs) j) (newest_above fs s j above) ∙ reserved_shut (Shut s j ∷ fs) j s some (shut_there fs s j)

pub shut_again : (k : Route) (fs : List Fact) → IsLawful k fs → (s j : ℕ) → newest_of fs j ≡ s → held_of (Shut s j ∷ fs) j ≤ held_of fs j
shut_again k fs lawful s j equal = elim (cases_eq s 0) [
  | inl z ↦ (
      let e : held_of (Shut s j ∷ fs) j ≡ 0 = ap (reserved_for (Shut s j ∷ fs) j) (newest_above fs s j (omega arith) ∙ z) in
      omega arith)
  | inr some ↦ (
      let e = shut_now fs s j (omega arith) some in
      let more : newest_of fs j ≢ 0 = λ z. some (sym equal ∙ z) in
      let low = floor_low k fs lawful (newest_of fs j) in
      let same : floor_of fs s ≡ floor_of fs (newest_of fs j) = ap (floor_of fs) (sym equal) in
      elim (cases_Bool (was_shut fs (newest_of fs j) j)) [
        | inl t ↦ omega (arith, reserved_shut fs j (newest_of fs j) more t)
        | inr f ↦ omega (arith, reserved_open fs j (newest_of fs j) more f)
      ])
]
