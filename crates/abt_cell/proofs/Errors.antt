-- Which polynomials are no multiples of the generator: those of odd weight, of few terms, and bursts.
use Rattle.std.proofs.Common.{◌≡◌, ◌≢◌, ℕ, ◌+◌, ◌*◌, ◌/◌, ◌%◌, ◌^◌, ◌<◌, ◌≤◌, inl, inr, List, [], ◌∷◌, Bool, true, false, cond, not, ◌&&◌, arith, ap, sym, subst, ◌∙◌, refl, suc, zero, eqb}
use Rattle.std.proofs.lemmas.Bool.{eqb-false, not-true, and_parts, cases_eq}
use Rattle.std.specs.Int.Bits.{bit_xor, xor_shr, xor_shifted}
use Rattle.std.specs.Prelude.{count_ones}
use Rattle.std.proofs.Math.Nat.{mul-one, mul_assoc, pow-suc}
use Rattle.std.proofs.lemmas.Nat.Bits.{bit_at_xor}
use Rattle.std.proofs.lemmas.Nat.{zero_from_ones}
use lib.Count.{ones, ones_step}
use Rattle.abt_cell.specs.Polynomial.{generator, product, IsMultiple, IsRemainder}
use Rattle.abt_cell.specs.Damage.{IsBurst}
use Rattle.abt_cell.proofs.Powers.{next, power, power-remainder}
use Rattle.abt_cell.proofs.Multiples.{multiple_zero, multiple_low, remainder_only}

-- ---- the weight of a sum, of twice and of a multiple

weight-none : count_ones 0 ≡ 0
unfolding ones
weight-none = refl

half_sum : (a b : ℕ) → bit_xor a b / 2 ≡ bit_xor (a / 2) (b / 2)
half_sum a b = xor_shr a b 1

lowest_of_sum : (a b : ℕ) → bit_xor a b % 2 ≡ (a % 2 + b % 2) % 2
lowest_of_sum a b = let low = bit_at_xor a b 0 in omega arith

weight-sum_in : (d a b : ℕ) → a ≤ d → b ≤ d → count_ones (bit_xor a b) % 2 ≡ (count_ones a + count_ones b) % 2
weight-sum_in zero a b none none' =
    let a_none : a ≡ 0 = omega arith in
    let b_none : b ≡ 0 = omega arith in
    let none = weight-none in
    let both : bit_xor a b ≡ 0 = rw (a_none, b_none) refl in
    let weight_a = ap count_ones a_none in
    let weight_b = ap count_ones b_none in
    let weight = ap count_ones both in
    omega arith
weight-sum_in (suc d) a b le le' =
    let halves = weight-sum_in d (a / 2) (b / 2) (omega arith) (omega arith) in
    let half = ap count_ones (half_sum a b) in
    let lowest = lowest_of_sum a b in
    let sum_step = ones_step (bit_xor a b) in
    let a_step = ones_step a in
    let b_step = ones_step b in
    omega arith

pub weight-sum : (a b : ℕ) → count_ones (bit_xor a b) % 2 ≡ (count_ones a + count_ones b) % 2
weight-sum a b = weight-sum_in (a + b) a b (omega arith) (omega arith)

weight-double : (p : ℕ) → count_ones (p * 2) ≡ count_ones p
weight-double p =
    let half : p * 2 / 2 ≡ p = omega arith in
    let lowest : p * 2 % 2 ≡ 0 = omega arith in
    let rest = ap count_ones half in
    let step = ones_step (p * 2) in
    omega arith

weight-term : (c : Bool) → count_ones (cond c generator 0) % 2 ≡ 0
unfolding ones
weight-term false = refl
weight-term true = refl

weight-product : (cs : List Bool) → count_ones (product cs generator) % 2 ≡ 0
weight-product [] = weight-term false
weight-product (c ∷ cs) =
    let both = weight-sum (cond c generator 0) (product cs generator * 2) in
    let tail = weight-double (product cs generator) in
    let before = weight-product cs in
    let term = weight-term c in
    omega arith

-- x + 1 divides the generator
pub multiple_even : (p : ℕ) → IsMultiple p → count_ones p % 2 ≡ 0
multiple_even p multiple = rw (← multiple.product_is) (weight-product multiple.quotient)

-- ---- the generator has the term 1, so x and it have no common factor

half_from_double : (t p : ℕ) → t * 2 ≡ p * 2 → t ≡ p
half_from_double t p same = omega arith

half_product : (cs : List Bool) (p : ℕ) → product cs generator ≡ p * 2 → IsMultiple p
half_product [] p is = let none : 0 ≡ p = omega arith in subst IsMultiple none multiple_zero
half_product (true ∷ cs) p is =
    let lowest = lowest_of_sum generator (product cs generator * 2) in
    let same : bit_xor generator (product cs generator * 2) ≡ p * 2 = is in
    absurd (omega arith)
half_product (false ∷ cs) p is = record { quotient = cs; product_is = half_from_double (product cs generator) p is }

multiple_half : (p : ℕ) → IsMultiple (p * 2) → IsMultiple p
multiple_half p multiple = half_product multiple.quotient p multiple.product_is

pub multiple_before : (p k : ℕ) → IsMultiple (p * 2 ^ k) → IsMultiple p
multiple_before p zero multiple = rw mul-one at multiple
multiple_before p (suc k) multiple =
    let twice : p * 2 ^ suc k ≡ p * 2 ^ k * 2 = ap (λ x. p * x) (pow-suc 2 k) ∙ sym (mul_assoc p (2 ^ k) 2) in
    multiple_before p k (multiple_half (p * 2 ^ k) (subst IsMultiple twice multiple))

pub burst_shows : (error : ℕ) → IsBurst 10 error → ¬ IsMultiple error
burst_shows error burst multiple =
    burst.some (multiple_low burst.pattern (multiple_before burst.pattern burst.after (subst IsMultiple burst.error_is multiple)) burst.within)

-- ---- the powers of x: none from x^1 to x^383 leaves 1

-- none of so many remainders from r on is 1
none_is_one : ℕ → ℕ → Bool
none_is_one zero r = true
none_is_one (suc k) r = not (eqb r 1) && none_is_one k (next r)

up_to_383 : none_is_one 383 2 ≡ true
unfolding none_is_one next
up_to_383 = refl

-- the powers from one on, as the test goes over them
later : ℕ → ℕ → ℕ
later zero r = r
later (suc d) r = later d (next r)

later-next : (d r : ℕ) → later d (next r) ≡ next (later d r)
unfolding later
later-next zero r = refl
later-next (suc d) r = later-next d (next r)

power-later : (d : ℕ) → power (suc d) ≡ later d 2
unfolding power next later
power-later zero = refl
power-later (suc d) = ap next (power-later d) ∙ sym (later-next d 2)

later_apart : (k r d : ℕ) → none_is_one k r ≡ true → d < k → later d r ≢ 1
unfolding none_is_one later
later_apart zero r d none within = absurd (omega arith)
later_apart (suc k) r zero none within = eqb-false r 1 (not-true (eqb r 1) (and_parts (not (eqb r 1)) (none_is_one k (next r)) none).0)
later_apart (suc k) r (suc d) none within =
    later_apart k (next r) d (and_parts (not (eqb r 1)) (none_is_one k (next r)) none).1 (omega arith)

-- 1 + x^d is no multiple for d from 1 to 383
two_show : (d : ℕ) → d < 383 → ¬ IsMultiple (2 ^ suc d + 1)
two_show d within multiple =
    let apart : bit_xor (2 ^ suc d) 1 ≡ 2 ^ suc d + 1 = ap (λ x. bit_xor x 1) (pow-suc 2 d) ∙ xor_shifted (2 ^ d) 1 1 (omega arith) ∙ ap (λ x. x + 1) (sym (pow-suc 2 d)) in
    let one : IsRemainder (2 ^ suc d) 1 = record { degree = omega arith; multiple = subst IsMultiple (sym apart) multiple } in
    later_apart 383 2 d up_to_383 within (sym (power-later d) ∙ remainder_only (2 ^ suc d) (power (suc d)) 1 (power-remainder (suc d)) one)

-- ---- one, two or three terms

record IsPower (k p : ℕ) : Type 0 where
  pub degree : ℕ
  pub below : degree < k
  pub power_is : p ≡ 2 ^ degree

half-lt : (p k : ℕ) → p < 2 ^ suc k → p / 2 < 2 ^ k
half-lt p k low = let twice = pow-suc 2 k in omega arith

weight_one : (k p : ℕ) → p < 2 ^ k → count_ones p ≡ 1 → IsPower k p
weight_one zero p low one =
    let none : p ≡ 0 = omega arith in
    let weight = ap count_ones none in
    let nothing = weight-none in
    absurd (omega arith)
weight_one (suc k) p low one =
    let step = ones_step p in
    elim (cases_eq (p % 2) 0) as (λ _. IsPower (suc k) p) [
      | inl even ↦
          let half = weight_one k (p / 2) (half-lt p k low) (omega arith) in
          let is = half.power_is in
          let below = half.below in
          let twice = pow-suc 2 half.degree in
          record { degree = suc half.degree; below = omega arith; power_is = omega arith }
      | inr odd ↦
          let none = zero_from_ones (p / 2) (omega arith) in
          record { degree = 0; below = omega arith; power_is = omega arith }
    ]

weight_two : (k p : ℕ) → k ≤ 384 → p < 2 ^ k → count_ones p ≡ 2 → ¬ IsMultiple p
weight_two zero p long low two multiple =
    let none : p ≡ 0 = omega arith in
    let weight = ap count_ones none in
    let nothing = weight-none in
    absurd (omega arith)
weight_two (suc k) p long low two multiple =
    let step = ones_step p in
    elim (cases_eq (p % 2) 0) as (λ _. ⊥) [
      | inl even ↦
          let twice : p ≡ p / 2 * 2 = omega arith in
          weight_two k (p / 2) (omega arith) (half-lt p k low) (omega arith) (multiple_half (p / 2) (subst IsMultiple twice multiple))
      | inr odd ↦
          let half = weight_one k (p / 2) (half-lt p k low) (omega arith) in
          let is = half.power_is in
          let below = half.below in
          let twice = pow-suc 2 half.degree in
          let sum : p ≡ 2 ^ suc half.degree + 1 = omega arith in
          two_show half.degree (omega arith) (subst IsMultiple sum multiple)
    ]

pub odd_shows : (error : ℕ) → count_ones error % 2 ≡ 1 → ¬ IsMultiple error
odd_shows error odd multiple = let even = multiple_even error multiple in omega arith

pub few_show : (error : ℕ) → error < 2 ^ 384 → count_ones error ≢ 0 → count_ones error ≤ 3 → ¬ IsMultiple error
few_show error low some few =
    elim (cases_eq (count_ones error) 2) as (λ _. ¬ IsMultiple error) [
      | inl two ↦ weight_two 384 error (omega arith) low two
      | inr other ↦ odd_shows error (omega arith)
    ]
