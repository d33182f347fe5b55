-- Rates beside a quotient.
use Rattle.std.proofs.Common.{◌≡◌, ℕ, ◌+◌, ◌*◌, ◌/◌, ◌%◌, ◌^◌, ◌<◌, ◌≤◌, ◌↔◌, inl, inr, arith, min, refl, sym, subst, ap, ◌∙◌, Option}
use Rattle.std.proofs.Math.Pow.{pow_mono}
use Rattle.std.proofs.Math.Nat.{le-div_iff_mul-le, div-add-mod, mul_comm, mul-le-mul_right, mul-lt-mul_of_pos_right}
use Rattle.std.proofs.lemmas.Nat.{div-mul-add, mod-mul-add}
use Rattle.std.proofs.lemmas.Grind.{div_ceil_times}
use Rattle.std.proofs.lemmas.Bool.{cases_lt}
use Rattle.std.specs.Prelude.{Some, None, IsNone, IfSome}
use Rattle.std.specs.Int.{div_ceil}
use Rattle.abt_rate.specs.Extremes.{IsLeast, IsGreatest}
use Rattle.abt_rate.specs.Rate.{IsRate, greatest_units}
use Rattle.abt_codes.specs.Nearest.{IsAbove, IsBelow, IsExactly}
use Rattle.abt_codes.specs.declared.quantity.Quantity.{Quantity}

rate_bound : (n : ℕ) → IsRate n → n ≤ 1023 * 2 ^ 31
rate_bound n (inl zero_rate) = omega arith
rate_bound n (inr rate) =
    let at_most_31 : rate.exponent ≤ 31 = let e = rate.exponent_fits in omega arith in
    let power : 2 ^ rate.exponent ≤ 2 ^ 31 = pow_mono at_most_31 in
    let at_most_1023 : 512 + rate.mantissa ≤ 1023 = let m = rate.mantissa_fits in omega arith in
    let times = mul-le-mul_right (2 ^ rate.exponent) at_most_1023 in
    let is = rate.units_are in
    omega arith

-- what is at most a quotient, rounded down, is at most the quotient
from_floor : (over under n : ℕ) → 0 < under → n ≤ over / under → n * under ≤ over
from_floor over under n positive = (le-div_iff_mul-le positive).0

to_floor : (over under n : ℕ) → 0 < under → n * under ≤ over → n ≤ over / under
to_floor over under n positive = (le-div_iff_mul-le positive).1

pub below_quotient : (quantity : Quantity) (rate units : ℕ) → 0 < quantity.under → units ≡ quantity.over / quantity.under
    → IsGreatest (λ n. IsRate n × (n ≤ units)) rate → IsBelow quantity rate
below_quotient quantity rate units positive is g = record {
  holds = (g.holds.0, let within = g.holds.1 in from_floor quantity.over quantity.under rate positive (omega (arith, within, is)));
  greatest = λ k at_most.
      let floor = to_floor quantity.over quantity.under k positive at_most.1 in
      g.greatest k (at_most.0, omega (arith, floor, is));
}

-- above all numbers of 64 bits there is no rate
pub below_all : (quantity : Quantity) (rate : ℕ) → 0 < quantity.under → (quantity.over / quantity.under < 18446744073709551616 → ⊥)
    → IsGreatest (λ n. IsRate n × (n ≤ 18446744073709551615)) rate → IsBelow quantity rate
below_all quantity rate positive beyond g =
    elim (cases_lt (quantity.over / quantity.under) 18446744073709551616) as (λ _. IsBelow quantity rate) [
      | inl less ↦ absurd (beyond less)
      | inr more ↦ record {
        holds = (g.holds.0, let within = g.holds.1 in from_floor quantity.over quantity.under rate positive (omega (arith, within, more)));
        greatest = λ k is. g.greatest k (is.0, let bound = rate_bound k is.0 in omega (arith, bound));
      }
    ]

-- what is at least a quotient, rounded up, is at least the quotient
from_ceil : (over under n : ℕ) → 0 < under → div_ceil over under ≤ n → over ≤ n * under
from_ceil over under n positive at_least =
    let times = (div_ceil_times over under positive).0 in
    let more = mul-le-mul_right under at_least in
    omega (arith, times, more)

to_ceil : (over under n : ℕ) → 0 < under → over ≤ n * under → div_ceil over under ≤ n
to_ceil over under n positive at_least =
    elim (cases_lt n (div_ceil over under)) as (λ _. div_ceil over under ≤ n) [
      | inl less ↦
          let next : n + 1 ≤ div_ceil over under = omega (arith, less) in
          let times = mul-le-mul_right under next in
          let short = (div_ceil_times over under positive).1 in
          absurd (omega (arith, times, short, at_least))
      | inr within ↦ within
    ]

none_above : (over under : ℕ) → 0 < under → (greatest_units < div_ceil over under) ↔ (greatest_units * under < over)
none_above over under positive = (
  λ less. elim (cases_lt (greatest_units * under) over) as (λ _. greatest_units * under < over) [
    | inl h ↦ h
    | inr h ↦ let within = to_ceil over under greatest_units positive h in absurd (omega (arith, within, less))
  ],
  λ less. elim (cases_lt greatest_units (div_ceil over under)) as (λ _. greatest_units < div_ceil over under) [
    | inl h ↦ h
    | inr h ↦ let beyond = from_ceil over under greatest_units positive h in absurd (omega (arith, beyond, less))
  ],
)

least_above : (quantity : Quantity) (found : Option ℕ) → 0 < quantity.under
    → IfSome found (IsLeast (λ n. IsRate n × (div_ceil quantity.over quantity.under ≤ n)))
    → IfSome found (IsLeast (λ n. IsRate n × (quantity.over ≤ n * quantity.under)))
least_above quantity (Some rate) positive l = record {
  holds = (l.holds.0, from_ceil quantity.over quantity.under rate positive l.holds.1);
  least = λ k is. l.least k (is.0, to_ceil quantity.over quantity.under k positive is.1);
}
least_above quantity None positive l = tt

pub above_quotient : (quantity : Quantity) (found : Option ℕ) (units : ℕ) → 0 < quantity.under → units ≡ div_ceil quantity.over quantity.under
    → (IsNone found ↔ (greatest_units < units)) → IfSome found (IsLeast (λ n. IsRate n × (units ≤ n))) → IsAbove quantity found
above_quotient quantity found units positive is none least =
    let beyond = none_above quantity.over quantity.under positive in
    record {
      none = (λ absent. beyond.0 (subst (λ u. greatest_units < u) is (none.0 absent)), λ more. none.1 (subst (λ u. greatest_units < u) (sym is) (beyond.1 more)));
      least = least_above quantity found positive (subst (λ u. IfSome found (IsLeast (λ n. IsRate n × (u ≤ n)))) is least);
    }

-- a quotient without a rest is just the rate below it
pub exactly : (quantity : Quantity) (rate : ℕ) → IsBelow quantity rate → quantity.over / quantity.under ≡ rate → quantity.over % quantity.under ≡ 0
    → IsExactly quantity rate
exactly quantity rate below is whole =
    let parts = div-add-mod quantity.over quantity.under in
    let times : quantity.under * (quantity.over / quantity.under) ≡ quantity.over = omega (arith, parts, whole) in
    (below.holds.0, ap (λ x. x * quantity.under) (sym is) ∙ mul_comm (quantity.over / quantity.under) quantity.under ∙ times)

-- just a quantity is the rate below it, if any
pub same_rate : (quantity : Quantity) (rate units : ℕ) → 0 < quantity.under → IsBelow quantity rate → IsExactly quantity units → units ≡ rate
same_rate quantity rate units positive below is =
    let times = is.1 in
    let at_most = below.greatest units (is.0, omega (arith, times)) in
    elim (cases_lt units rate) as (λ _. units ≡ rate) [
      | inl less ↦
          let more = mul-lt-mul_of_pos_right less positive in
          let holds = below.holds.1 in
          absurd (omega (arith, more, holds, times))
      | inr within ↦ omega (arith, at_most, within)
    ]

pub no_other : (quantity : Quantity) (rate units : ℕ) → 0 < quantity.under → IsBelow quantity rate → IsExactly quantity units
    → (quantity.over / quantity.under ≡ rate) × (quantity.over % quantity.under ≡ 0)
no_other quantity rate units positive below is =
    let same = same_rate quantity rate units positive below is in
    let product = ap (λ x. x * quantity.under) same in
    let times = is.1 in
    let over_is : quantity.over ≡ rate * quantity.under + 0 = omega (arith, product, times) in (
      ap (λ x. x / quantity.under) over_is ∙ div-mul-add rate quantity.under 0 positive,
      ap (λ x. x % quantity.under) over_is ∙ mod-mul-add rate quantity.under 0 positive,
    )
