-- What the bodies of `Rate` compute, on plain numbers. `e` is the exponent of the band in which u lies.
use Rattle.std.proofs.Common.{◌≡◌, ◌≢◌, ℕ, suc, ◌+◌, ◌-◌, ◌*◌, ◌/◌, ◌%◌, ◌^◌, ◌<◌, ◌≤◌, ◌⊎◌, inl, inr, arith, ap, sym, subst, ◌∙◌, refl, min, max}
use Rattle.std.proofs.Math.Pow.{pow_mono}
use Rattle.std.proofs.lemmas.Nat.{pow_pos, pow-add, le-div, div_below, one_shl, leading_top}
use Rattle.std.proofs.Math.Nat.{mul_assoc, mul-le-mul_right, mul-lt-mul_of_pos_right, lt_of_mul-lt-mul_right, mul-div_left, pow-succ'}
use Rattle.std.proofs.lemmas.Bool.{ne_eqb, cases_lt, cases_eq, cases_order}
use Rattle.std.proofs.lemmas.Grind.{common_steps, div_ceil_times}
use Rattle.std.specs.Int.{div_ceil}
use Rattle.abt_rate.specs.Extremes.{IsLeast, IsGreatest}
use Rattle.abt_rate.specs.Code.{code_of, found_exponent, HasExponent}
use Rattle.abt_rate.specs.Rate.{units_of, nonzero_of, exponent_of, mantissa_of, IsCanonical, IsRate, KeepsRate}

-- a greater power is a multiple of a lesser one
pow_split : (i j : ℕ) → i ≤ j → 2 ^ j ≡ 2 ^ (j - i) * 2 ^ i
pow_split i j h = let e : j ≡ (j - i) + i = omega arith in ap (λ k. 2 ^ k) e ∙ pow-add 2 (j - i) i

pow_double : (i j : ℕ) → i < j → 2 * 2 ^ i ≤ 2 ^ j
pow_double i j h =
    let e : 2 ^ (1 + i) ≡ 2 ^ 1 * 2 ^ i = pow-add 2 1 i in
    let one_more : 1 + i ≤ j = omega arith in
    let le : 2 ^ (1 + i) ≤ 2 ^ j = pow_mono one_more in
    omega arith

-- the power of two at u or below
pub ilog2_exponent : (u r : ℕ) → 512 ≤ u → u ≤ 1023 * 2 ^ 31 → 2 ^ r ≤ u → u < 2 * 2 ^ r → HasExponent u (r - 9)
ilog2_exponent u r least greatest low high =
    elim (cases_lt r 9) as (λ _. HasExponent u (r - 9)) [
      | inl h ↦
          let small : r ≤ 8 = omega arith in
          let le : 2 ^ r ≤ 2 ^ 8 = pow_mono small in
          absurd (omega arith)
      | inr h ↦
          elim (cases_lt r 41) as (λ _. HasExponent u (r - 9)) [
            | inl below ↦
                let split = pow_split 9 r h in
                record { fits = omega arith; low = omega arith; high = omega arith }
            | inr above ↦
                let le : 2 ^ 41 ≤ 2 ^ r = pow_mono above in
                absurd (omega arith)
          ]
    ]

-- a rate is a multiple of the power of each band, or below the band
beside : (n e : ℕ) → IsRate n → ((k : ℕ) × (n ≡ k * 2 ^ e)) ⊎ (n < 512 * 2 ^ e)
beside n e (inl zero_rate) = inl (0, omega arith)
beside n e (inr rate) =
    elim (cases_lt rate.exponent e) as (λ _. ((k : ℕ) × (n ≡ k * 2 ^ e)) ⊎ (n < 512 * 2 ^ e)) [
      | inl h ↦
          let double = pow_double rate.exponent e h in
          let within : 512 + rate.mantissa < 1024 = let m = rate.mantissa_fits in omega arith in
          let less = mul-lt-mul_of_pos_right within (pow_pos rate.exponent) in
          let is = rate.units_are in
          inr (omega arith)
      | inr h ↦
          inl (
            (512 + rate.mantissa) * 2 ^ (rate.exponent - e),
            rate.units_are ∙ ap (λ x. (512 + rate.mantissa) * x) (pow_split e rate.exponent h) ∙ sym (mul_assoc (512 + rate.mantissa) (2 ^ (rate.exponent - e)) (2 ^ e)),
          )
    ]

-- ---- rounding down

floor_greatest : (u e n : ℕ) → HasExponent u e → IsRate n → n ≤ u → n ≤ u / 2 ^ e * 2 ^ e
floor_greatest u e n band rate le =
    let positive = pow_pos e in
    elim (beside n e rate) as (λ _. n ≤ u / 2 ^ e * 2 ^ e) [
      | inl multiple ↦
          let n_is = multiple.1 in
          let quotient : multiple.0 ≤ u / 2 ^ e = le-div multiple.0 u (2 ^ e) positive (omega arith) in
          let times = mul-le-mul_right (2 ^ e) quotient in
          omega arith
      | inr below ↦
          let quotient : 512 ≤ u / 2 ^ e = le-div 512 u (2 ^ e) positive band.low in
          let times = mul-le-mul_right (2 ^ e) quotient in
          omega arith
    ]

-- a multiple of the power in the band is a rate
multiple_rate : (q e : ℕ) → e < 32 → 512 ≤ q → q < 1024 → IsRate (q * 2 ^ e)
multiple_rate q e fits low high =
    let same : 512 + (q - 512) ≡ q = omega arith in
    inr (record {
      mantissa = q - 512;
      exponent = e;
      mantissa_fits = omega arith;
      exponent_fits = fits;
      units_are = ap (λ x. x * 2 ^ e) (sym same);
    })

pub floor_rate : (u e : ℕ) → HasExponent u e → IsRate (u / 2 ^ e * 2 ^ e)
floor_rate u e band =
    let positive = pow_pos e in
    multiple_rate (u / 2 ^ e) e band.fits (le-div 512 u (2 ^ e) positive band.low) (div_below u (2 ^ e) 1024 positive band.high)

rate_bound : (n : ℕ) → IsRate n → n ≤ 1023 * 2 ^ 31
rate_bound n (inl zero_rate) = omega arith
rate_bound n (inr rate) =
    let at_most_31 : rate.exponent ≤ 31 = let e = rate.exponent_fits in omega arith in
    let power : 2 ^ rate.exponent ≤ 2 ^ 31 = pow_mono at_most_31 in
    let at_most_1023 : 512 + rate.mantissa ≤ 1023 = let m = rate.mantissa_fits in omega arith in
    let times = mul-le-mul_right (2 ^ rate.exponent) at_most_1023 in
    let is = rate.units_are in
    omega arith

nonzero_from : (n : ℕ) → 0 < n → IsRate n → 512 ≤ n
nonzero_from n positive (inl zero_rate) = absurd (omega arith)
nonzero_from n positive (inr rate) =
    let power = pow_pos rate.exponent in
    let is = rate.units_are in
    let at_least_512 : 512 ≤ 512 + rate.mantissa = omega arith in
    let product = mul-le-mul_right (2 ^ rate.exponent) at_least_512 in
    omega arith

pub floor_most : (units u e : ℕ) → HasExponent u e → u ≡ min units (1023 * 2 ^ 31) → IsGreatest (λ n. IsRate n × (n ≤ units)) (u / 2 ^ e * 2 ^ e)
floor_most units u e band from = record {
  holds = (floor_rate u e band, grind (arith, common_steps));
  greatest = λ n rate. let bound = rate_bound n rate.0 in let below = rate.1 in floor_greatest u e n band rate.0 (omega arith);
}

-- ---- rounding up

pub ceil_rate : (u e : ℕ) → HasExponent u e → u ≤ 1023 * 2 ^ 31 → IsRate (div_ceil u (2 ^ e) * 2 ^ e)
ceil_rate u e band bound =
    let positive = pow_pos e in
    let times = div_ceil_times u (2 ^ e) positive in
    let low_band = band.low in
    let high_band = band.high in
    let from_511 : 511 * 2 ^ e < div_ceil u (2 ^ e) * 2 ^ e = let a = times.0 in omega arith in
    let low : 511 < div_ceil u (2 ^ e) = lt_of_mul-lt-mul_right (2 ^ e) from_511 in
    let to_1025 : div_ceil u (2 ^ e) * 2 ^ e < 1025 * 2 ^ e = let b = times.1 in omega arith in
    let high : div_ceil u (2 ^ e) < 1025 = lt_of_mul-lt-mul_right (2 ^ e) to_1025 in
    elim (cases_lt (div_ceil u (2 ^ e)) 1024) as (λ _. IsRate (div_ceil u (2 ^ e) * 2 ^ e)) [
      | inl below ↦ multiple_rate (div_ceil u (2 ^ e)) e band.fits low below
      | inr above ↦
          let is : div_ceil u (2 ^ e) ≡ 1024 = omega arith in
          elim (cases_lt e 31) as (λ _. IsRate (div_ceil u (2 ^ e) * 2 ^ e)) [
            | inl fits ↦
                let next : 1 + e < 32 = omega arith in
                let double : 2 ^ (1 + e) ≡ 2 ^ 1 * 2 ^ e = pow-add 2 1 e in
                let same : 512 * 2 ^ (1 + e) ≡ div_ceil u (2 ^ e) * 2 ^ e = rw is (omega arith) in
                subst IsRate same (multiple_rate 512 (1 + e) next (omega arith) (omega arith))
            | inr last ↦
                let e_is : e ≡ 31 = let f = band.fits in omega arith in
                let power : 2 ^ e ≡ 2 ^ 31 = ap (λ k. 2 ^ k) e_is in
                let too_much = times.1 in
                let too_much_is : div_ceil u (2 ^ e) * 2 ^ e ≡ 1024 * 2 ^ e = ap (λ c. c * 2 ^ e) is in
                absurd (omega arith)
          ]
    ]

ceil_least : (u e n : ℕ) → HasExponent u e → IsRate n → u ≤ n → div_ceil u (2 ^ e) * 2 ^ e ≤ n
ceil_least u e n band rate le =
    let positive = pow_pos e in
    let times = div_ceil_times u (2 ^ e) positive in
    let low = band.low in
    elim (beside n e rate) as (λ _. div_ceil u (2 ^ e) * 2 ^ e ≤ n) [
      | inl multiple ↦
          let n_is = multiple.1 in
          let below_next : div_ceil u (2 ^ e) * 2 ^ e < (1 + multiple.0) * 2 ^ e = let b = times.1 in omega arith in
          let quotient : div_ceil u (2 ^ e) < 1 + multiple.0 = lt_of_mul-lt-mul_right (2 ^ e) below_next in
          let quotient_le : div_ceil u (2 ^ e) ≤ multiple.0 = omega arith in
          let product = mul-le-mul_right (2 ^ e) quotient_le in
          omega arith
      | inr below ↦ absurd (omega arith)
    ]

-- u is units, or 512 if units is 1 to 511
pub ceil_lowest : (units u e : ℕ) → HasExponent u e → 0 < units → u ≡ max units 512 → u ≤ 1023 * 2 ^ 31 → IsLeast (λ n. IsRate n × (units ≤ n)) (div_ceil u (2 ^ e) * 2 ^ e)
ceil_lowest units u e band positive from bound =
    let times = div_ceil_times u (2 ^ e) (pow_pos e) in
    record {
      holds = (ceil_rate u e band bound, let a = times.0 in omega arith);
      least = λ n rate. let above = rate.1 in let least_rate = nonzero_from n (omega arith) rate.0 in ceil_least u e n band rate.0 (omega arith);
    }

-- ---- the code

code_fields : (e m : ℕ) → e < 32 → m < 512 → (nonzero_of (16384 + e * 512 + m) ≡ 1) × (exponent_of (16384 + e * 512 + m) ≡ e) × (mantissa_of (16384 + e * 512 + m) ≡ m)
code_fields e m he hm = (omega arith, omega arith, omega arith)

code_parts : (code : ℕ) → code < 2 ^ 15 → nonzero_of code ≢ 0 → code ≡ 16384 + exponent_of code * 512 + mantissa_of code
code_parts code reserved nonzero = omega arith

pub units_of_nonzero : (code : ℕ) → nonzero_of code ≢ 0 → units_of code ≡ (512 + mantissa_of code) * 2 ^ exponent_of code
units_of_nonzero code nonzero = let is : nonzero_of code ≡ 1 = omega arith in rw is

whole_quotient : (u e : ℕ) → HasExponent u e → IsRate u → u / 2 ^ e * 2 ^ e ≡ u
whole_quotient u e band rate =
    let low = band.low in
    elim (beside u e rate) as (λ _. u / 2 ^ e * 2 ^ e ≡ u) [
      | inl multiple ↦
          let quotient : u / 2 ^ e ≡ multiple.0 = ap (λ n. n / 2 ^ e) multiple.1 ∙ mul-div_left multiple.0 (pow_pos e) in
          ap (λ q. q * 2 ^ e) quotient ∙ sym multiple.1
      | inr below ↦ absurd (omega arith)
    ]

quotient_bounds : (u e : ℕ) → HasExponent u e → (512 ≤ u / 2 ^ e) × (u / 2 ^ e < 1024)
quotient_bounds u e band = (le-div 512 u (2 ^ e) (pow_pos e) band.low, div_below u (2 ^ e) 1024 (pow_pos e) band.high)

pub units_of_code : (u e : ℕ) → HasExponent u e → IsRate u → units_of (16384 + e * 512 + (u / 2 ^ e - 512)) ≡ u
units_of_code u e band rate =
    let bounds = quotient_bounds u e band in
    let fits : u / 2 ^ e - 512 < 512 = omega arith in
    let fields = code_fields e (u / 2 ^ e - 512) band.fits fits in
    let nonzero : nonzero_of (16384 + e * 512 + (u / 2 ^ e - 512)) ≢ 0 = let one = fields.0 in omega arith in
    let same : 512 + (u / 2 ^ e - 512) ≡ u / 2 ^ e = omega arith in
    units_of_nonzero _ nonzero ∙ rw (fields.1, fields.2, same) (whole_quotient u e band rate)

same_exponent : (u e f : ℕ) → HasExponent u e → HasExponent u f → e ≡ f
same_exponent u e f a b =
    let low = a.low in
    let high = b.high in
    let low' = b.low in
    let high' = a.high in
    elim (cases_order e f) as (λ _. e ≡ f) [
      | inl same ↦ same
      | inr other ↦ elim other as (λ _. e ≡ f) [
        | inl less ↦ let double = pow_double e f less in absurd (omega arith)
        | inr more ↦ let double = pow_double f e more in absurd (omega arith)
      ]
    ]

rate_exponent : (m e : ℕ) → m < 512 → e < 32 → HasExponent ((512 + m) * 2 ^ e) e
rate_exponent m e hm he =
    let at_least_512 : 512 ≤ 512 + m = omega arith in
    let below_1024 : 512 + m < 1024 = omega arith in
    record { fits = he; low = mul-le-mul_right (2 ^ e) at_least_512; high = mul-lt-mul_of_pos_right below_1024 (pow_pos e) }

pub only_code : (u e code : ℕ) → HasExponent u e → IsCanonical code → units_of code ≡ u → code ≡ 16384 + e * 512 + (u / 2 ^ e - 512)
only_code u e code band canonical is =
    elim (cases_eq (nonzero_of code) 0) as (λ _. code ≡ 16384 + e * 512 + (u / 2 ^ e - 512)) [
      | inl zero_rate ↦
          let none : units_of code ≡ 0 = rw zero_rate in
          let low = band.low in
          let positive = pow_pos e in
          absurd (omega arith)
      | inr nonzero ↦
          let units_are : (512 + mantissa_of code) * 2 ^ exponent_of code ≡ u = sym (units_of_nonzero code nonzero) ∙ is in
          let mantissa_fits : mantissa_of code < 512 = omega arith in
          let exponent_fits : exponent_of code < 32 = omega arith in
          let other = subst (λ n. HasExponent n (exponent_of code)) units_are (rate_exponent (mantissa_of code) (exponent_of code) mantissa_fits exponent_fits) in
          let exponent_is : exponent_of code ≡ e = same_exponent u (exponent_of code) e other band in
          let u_is : u ≡ (512 + mantissa_of code) * 2 ^ e = sym units_are ∙ ap (λ x. (512 + mantissa_of code) * 2 ^ x) exponent_is in
          let quotient : u / 2 ^ e ≡ 512 + mantissa_of code = ap (λ n. n / 2 ^ e) u_is ∙ mul-div_left (512 + mantissa_of code) (pow_pos e) in
          let parts = code_parts code canonical.reserved nonzero in
          omega arith
    ]

-- ---- the spacing

pub spacing_least : (u : ℕ) → 0 < u → IsLeast (KeepsRate u) (div_ceil (512 * 10 ^ 12) u)
spacing_least u positive =
    let times = div_ceil_times (512 * 10 ^ 12) u positive in
    record {
      holds = times.0;
      least = λ t keeps.
          let below_next : div_ceil (512 * 10 ^ 12) u * u < (1 + t) * u = let b = times.1 in omega arith in
          let less : div_ceil (512 * 10 ^ 12) u < 1 + t = lt_of_mul-lt-mul_right u below_next in
          omega arith;
    }

pub spacing_range : (u t : ℕ) → IsRate u → 0 < u → IsLeast (KeepsRate u) t → (234 ≤ t) × (t ≤ 10 ^ 12)
spacing_range u t rate positive spacing =
    let bound = rate_bound u rate in
    let least_rate = nonzero_from u positive rate in
    let keeps = spacing.holds in
    let second : t ≤ 10 ^ 12 = spacing.least (10 ^ 12) (omega arith) in
    elim (cases_lt t 234) as (λ _. (234 ≤ t) × (t ≤ 10 ^ 12)) [
      | inl less ↦
          let at_most_233 : t ≤ 233 = omega arith in
          let product = mul-le-mul_right u at_most_233 in
          absurd (omega arith)
      | inr enough ↦ (enough, second)
    ]

-- a shift loses nothing where it gives a rate
pub shifted : (n : ℕ) → IsRate n → n % 2 ^ 64 ≡ n
shifted n rate = let bound = rate_bound n rate in omega arith

pub one_shifted : (e : ℕ) → e < 32 → 1 * 2 ^ e % 2 ^ 64 ≡ 2 ^ e
one_shifted e fits = let width : e < 64 = omega arith in one_shl e 64 width

pub code_rate : (code : ℕ) → IsRate ((512 + mantissa_of code) * 2 ^ exponent_of code)
code_rate code = inr (record {
  mantissa = mantissa_of code;
  exponent = exponent_of code;
  mantissa_fits = omega arith;
  exponent_fits = omega arith;
  units_are = refl;
})

pub found-exponent : (u e : ℕ) → HasExponent u e → u ≤ 1023 * 2 ^ 31 → found_exponent u ≡ e
found-exponent u e band bound =
    let low = band.low in
    let power = pow_pos e in
    let top = leading_top 64 u (omega arith) (omega arith) in
    let double : 2 ^ suc top.0 ≡ 2 * 2 ^ top.0 = pow-succ' 2 top.0 in
    let high : u < 2 * 2 ^ top.0 = let h = top.3 in omega arith in
    let other = ilog2_exponent u top.0 (omega arith) bound top.2 high in
    let same = same_exponent u (top.0 - 9) e other band in
    let place = top.1 in
    omega arith

pub code-of : (u e : ℕ) → HasExponent u e → IsRate u → code_of u ≡ 16384 + e * 512 + (u / 2 ^ e - 512)
code-of u e band rate =
    let low = band.low in
    let power = pow_pos e in
    let positive : u ≢ 0 = omega arith in
    let is = found-exponent u e band (rate_bound u rate) in
    rw (ne_eqb u 0 positive, is)
