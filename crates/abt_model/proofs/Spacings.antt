-- A greater rate has no greater spacing, and none is above the greatest.
use Rattle.std.proofs.Common.{◌≡◌, ◌≢◌, ℕ, ◌*◌, ◌≤◌, ◌<◌, inl, inr, sym, subst, arith}
use Rattle.std.specs.Prelude.{min}
use Rattle.std.proofs.lemmas.Bool.{cases_lt, cases_eq, eq-eqb, ne_eqb, cond-true, cond-false}
use Rattle.std.proofs.Math.Nat.{mul-le-mul_left}
use Rattle.abt_rate.specs.Rate.{IsRate, spacing_of}
use Rattle.abt_rate.proofs.Rates.{spacing_least, spacing_range}
use Rattle.abt_rate.specs.Limits.{spacing_max}
use Rattle.abt_facts.specs.Keeping.{counted}

pub spacing_antitone : (r s : ℕ) → 0 < r → r ≤ s → spacing_of s ≤ spacing_of r
spacing_antitone r s some le =
    let enough = (spacing_least r some).holds in
    let more : spacing_of r * r ≤ spacing_of r * s = mul-le-mul_left (spacing_of r) le in
    (spacing_least s (omega arith)).least (spacing_of r) (omega arith)

pub spacing_bounds : (r : ℕ) → IsRate r → 0 < r → (234 ≤ spacing_of r) × (spacing_of r ≤ spacing_max)
spacing_bounds r rate some = spacing_range r (spacing_of r) rate some (spacing_least r some)

-- what a rate counts for is at most the greatest spacing, and the lesser of two rates counts for no more than one of them
pub counted_bound : (r : ℕ) → IsRate r → counted r ≤ spacing_max
counted_bound r rate = elim (cases_eq r 0) [
  | inl zero ↦ (let is : counted r ≡ 0 = cond-true _ _ _ (eq-eqb r 0 zero) in omega arith)
  | inr some ↦ (
      let is : counted r ≡ spacing_of r = cond-false _ _ _ (ne_eqb r 0 some) in
      let most = (spacing_bounds r rate (omega arith)).1 in
      omega arith)
]

pub counted_some : (r : ℕ) → r ≢ 0 → counted r ≡ spacing_of r
counted_some r some = cond-false _ _ _ (ne_eqb r 0 some)

pub counted_min : (a b w : ℕ) → counted a ≤ w → counted b ≤ w → counted (min a b) ≤ w
counted_min a b w x y = elim (cases_lt a b) [
  | inl lt ↦ (let is : min a b ≡ a = omega arith in subst (λ r. counted r ≤ w) (sym is) x)
  | inr ge ↦ (let is : min a b ≡ b = omega arith in subst (λ r. counted r ≤ w) (sym is) y)
]

pub min_rate : (a b : ℕ) → IsRate a → IsRate b → IsRate (min a b)
min_rate a b x y = elim (cases_lt a b) [
  | inl lt ↦ (let is : min a b ≡ a = omega arith in subst IsRate (sym is) x)
  | inr ge ↦ (let is : min a b ≡ b = omega arith in subst IsRate (sym is) y)
]
