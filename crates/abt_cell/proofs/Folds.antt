-- A polynomial and a shorter one leave the same remainder, where x^n leaves three terms: what stands at x^n and above is added at these.
use Rattle.std.proofs.Common.{◌≡◌, ℕ, ◌+◌, ◌*◌, ◌/◌, ◌%◌, ◌^◌, ◌<◌, ◌≤◌, arith, ap, sym, subst, ◌∙◌, suc, zero, inl, inr, get_or, List}
use Rattle.std.proofs.lemmas.Bool.{cases_eq}
use Rattle.std.specs.Int.Bits.{bit_xor, xor_assoc, xor_comm, xor_self, xor_zero_l, xor_zero_r, xor_shifted, xor_lt}
use Rattle.std.proofs.Math.Nat.{mul_assoc, mul_comm, mul-one, zero-mul, mod-lt, div-add-mod'}
use Rattle.std.proofs.Math.Pow.{pow_mono}
use Rattle.std.proofs.lemmas.Nat.{pow_pos, pow-add}
use Rattle.abt_cell.specs.Polynomial.{polynomial_of, unchecked_part, IsMultiple, IsRemainder}
use Rattle.abt_cell.proofs.Remainders.{IsDivided, table, table-divided}
use Rattle.abt_cell.proofs.Powers.{next, power, power-remainder}
use Rattle.abt_cell.proofs.Multiples.{xor_pow, xor_double, xor_swap, multiple_zero, multiple_double, multiple_sum, multiple_shifted, multiple_between, remainder_only}

-- t times x^n + x^a + x^b + x^c
unfoldable pub times : (n a b c t : ℕ) → ℕ
times n a b c t = bit_xor (t * 2 ^ n) (bit_xor (bit_xor (t * 2 ^ a) (t * 2 ^ b)) (t * 2 ^ c))

times-sum : (n a b c t u : ℕ) → times n a b c (bit_xor t u) ≡ bit_xor (times n a b c t) (times n a b c u)
unfolding times
times-sum n a b c t u =
    let at_n = xor_pow t u n in
    let at_a = xor_pow t u a in
    let at_b = xor_pow t u b in
    let at_c = xor_pow t u c in
    rw (← at_n, ← at_a, ← at_b, ← at_c)
    (ap (λ x. bit_xor (bit_xor (t * 2 ^ n) (u * 2 ^ n)) (bit_xor x (bit_xor (t * 2 ^ c) (u * 2 ^ c)))) (xor_swap (t * 2 ^ a) (u * 2 ^ a) (t * 2 ^ b) (u * 2 ^ b))
    ∙ ap (bit_xor (bit_xor (t * 2 ^ n) (u * 2 ^ n))) (xor_swap (bit_xor (t * 2 ^ a) (t * 2 ^ b)) (bit_xor (u * 2 ^ a) (u * 2 ^ b)) (t * 2 ^ c) (u * 2 ^ c))
    ∙ xor_swap (t * 2 ^ n) (u * 2 ^ n) (bit_xor (bit_xor (t * 2 ^ a) (t * 2 ^ b)) (t * 2 ^ c)) (bit_xor (bit_xor (u * 2 ^ a) (u * 2 ^ b)) (u * 2 ^ c)))

double-shifted : (t k : ℕ) → t * 2 * 2 ^ k ≡ t * 2 ^ k * 2
double-shifted t k = mul_assoc t 2 (2 ^ k) ∙ ap (λ x. t * x) (mul_comm 2 (2 ^ k)) ∙ sym (mul_assoc t (2 ^ k) 2)

times-double : (n a b c t : ℕ) → times n a b c (t * 2) ≡ times n a b c t * 2
unfolding times
times-double n a b c t =
    let at_n = double-shifted t n in
    let at_a = double-shifted t a in
    let at_b = double-shifted t b in
    let at_c = double-shifted t c in
    rw (at_n, at_a, at_b, at_c)
    (ap (λ x. bit_xor (t * 2 ^ n * 2) (bit_xor x (t * 2 ^ c * 2))) (xor_double (t * 2 ^ a) (t * 2 ^ b))
    ∙ ap (bit_xor (t * 2 ^ n * 2)) (xor_double (bit_xor (t * 2 ^ a) (t * 2 ^ b)) (t * 2 ^ c))
    ∙ xor_double (t * 2 ^ n) (bit_xor (bit_xor (t * 2 ^ a) (t * 2 ^ b)) (t * 2 ^ c)))

-- x^n leaves x^a + x^b + x^c
pub record Leaves (n a b c : ℕ) : Type 0 where
  pub multiple : IsMultiple (times n a b c 1)

times-zero : (n a b c : ℕ) → times n a b c 0 ≡ 0
unfolding times
times-zero n a b c = rw (zero-mul (2 ^ n), zero-mul (2 ^ a), zero-mul (2 ^ b), zero-mul (2 ^ c))

times-multiple_in : (n a b c d t : ℕ) → Leaves n a b c → t ≤ d → IsMultiple (times n a b c t)
times-multiple_in n a b c zero t leaves le =
    let none : t ≡ 0 = omega arith in
    subst IsMultiple (sym (ap (times n a b c) none ∙ times-zero n a b c)) multiple_zero
times-multiple_in n a b c (suc d) t leaves le =
    let half = times-multiple_in n a b c d (t / 2) leaves (omega arith) in
    let twice : IsMultiple (times n a b c (t / 2 * 2)) = subst IsMultiple (sym (times-double n a b c (t / 2))) (multiple_double (times n a b c (t / 2)) half) in
    elim (cases_eq (t % 2) 0) as (λ _. IsMultiple (times n a b c t)) [
      | inl even ↦ let is : t / 2 * 2 ≡ t = omega arith in subst (λ x. IsMultiple (times n a b c x)) is twice
      | inr odd ↦
          let is : t / 2 * 2 + 1 ≡ t = omega arith in
          let apart : bit_xor (t / 2 * 2) 1 ≡ t = xor_shifted (t / 2) 1 1 (omega arith) ∙ is in
          subst IsMultiple (sym (times-sum n a b c (t / 2 * 2) 1) ∙ ap (times n a b c) apart)
          (multiple_sum (times n a b c (t / 2 * 2)) (times n a b c 1) twice leaves.multiple)
    ]

times-multiple : (n a b c t : ℕ) → Leaves n a b c → IsMultiple (times n a b c t)
times-multiple n a b c t leaves = times-multiple_in n a b c t t leaves (omega arith)

-- ---- the upper part of a polynomial, put lower

cancelled : (t l m : ℕ) → bit_xor (bit_xor t l) (bit_xor l m) ≡ bit_xor t m
cancelled t l m = xor_assoc t l (bit_xor l m) ∙ ap (bit_xor t) (sym (xor_assoc l l m) ∙ ap (λ x. bit_xor x m) (xor_self l) ∙ xor_zero_l m)

gathered : (l x y z : ℕ) → bit_xor (bit_xor (bit_xor l x) y) z ≡ bit_xor l (bit_xor (bit_xor x y) z)
gathered l x y z = ap (λ w. bit_xor w z) (xor_assoc l x y) ∙ xor_assoc l (bit_xor x y) z

parted : (p n : ℕ) → bit_xor (p / 2 ^ n * 2 ^ n) (p % 2 ^ n) ≡ p
parted p n = xor_shifted (p / 2 ^ n) n (p % 2 ^ n) (mod-lt p (pow_pos n)) ∙ div-add-mod' p (2 ^ n)

pub folded : (n a b c p : ℕ) → Leaves n a b c → IsMultiple (bit_xor p (bit_xor (bit_xor (bit_xor (p % 2 ^ n) (p / 2 ^ n * 2 ^ a)) (p / 2 ^ n * 2 ^ b)) (p / 2 ^ n * 2 ^ c)))
unfolding times
folded n a b c p leaves =
    let lower : ℕ = bit_xor (bit_xor (p / 2 ^ n * 2 ^ a) (p / 2 ^ n * 2 ^ b)) (p / 2 ^ n * 2 ^ c) in
    subst IsMultiple
    (sym (cancelled (p / 2 ^ n * 2 ^ n) (p % 2 ^ n) lower)
    ∙ ap (λ x. bit_xor x (bit_xor (p % 2 ^ n) lower)) (parted p n)
    ∙ ap (bit_xor p) (sym (gathered (p % 2 ^ n) (p / 2 ^ n * 2 ^ a) (p / 2 ^ n * 2 ^ b) (p / 2 ^ n * 2 ^ c))))
    (times-multiple n a b c (p / 2 ^ n) leaves)

pub folded_to_one : (n a b p : ℕ) → Leaves n a b 0 → IsMultiple (bit_xor p (bit_xor (bit_xor (bit_xor (p % 2 ^ n) (p / 2 ^ n * 2 ^ a)) (p / 2 ^ n * 2 ^ b)) (p / 2 ^ n)))
folded_to_one n a b p leaves =
    subst (λ x. IsMultiple (bit_xor p (bit_xor (bit_xor (bit_xor (p % 2 ^ n) (p / 2 ^ n * 2 ^ a)) (p / 2 ^ n * 2 ^ b)) x))) (mul-one (p / 2 ^ n)) (folded n a b 0 p leaves)

pub with_rest : (p rest : ℕ) → IsDivided (p / 2 ^ 10 * 2 ^ 10) rest → IsDivided p (bit_xor (p % 2 ^ 10) rest)
with_rest p rest divided = record {
  degree = xor_lt 10 (p % 2 ^ 10) rest (mod-lt p (pow_pos 10)) divided.degree;
  multiple = subst IsMultiple (sym (cancelled (p / 2 ^ 10 * 2 ^ 10) (p % 2 ^ 10) rest) ∙ ap (λ x. bit_xor x (bit_xor (p % 2 ^ 10) rest)) (parted p 10)) divided.multiple;
}

-- the remainder without the ten lowest coefficients
unchecked_remainder : (p r low : ℕ) → low ≡ p % 2 ^ 10 → IsRemainder p r → IsRemainder (p / 2 ^ 10 * 2 ^ 10) (bit_xor r low)
unchecked_remainder p r low is whole =
    let upper : ℕ = p / 2 ^ 10 * 2 ^ 10 in
    let lowest = mod-lt p (pow_pos 10) in
    let split : bit_xor upper low ≡ p = ap (bit_xor upper) is ∙ parted p 10 in
    let same : bit_xor p r ≡ bit_xor upper (bit_xor r low) =
    ap (λ x. bit_xor x r) (sym split) ∙ xor_assoc upper low r ∙ ap (bit_xor upper) (xor_comm low r) in
    record { degree = xor_lt 10 r low whole.degree (omega arith); multiple = subst IsMultiple same whole.multiple }

pub check_remainder : (octets : List ℕ) (r low : ℕ) → low ≡ polynomial_of octets % 2 ^ 10 → IsRemainder (polynomial_of octets) r → IsRemainder (unchecked_part octets) (bit_xor r low)
check_remainder octets r low is whole = unchecked_remainder (polynomial_of octets) r low is whole

pub check_only : (octets : List ℕ) (r low other : ℕ) → low ≡ polynomial_of octets % 2 ^ 10 → IsRemainder (polynomial_of octets) r → IsRemainder (unchecked_part octets) other → other ≡ bit_xor r low
check_only octets r low other is whole remains = remainder_only (unchecked_part octets) other (bit_xor r low) remains (check_remainder octets r low is whole)

pub more_block : (n a b c p rest block : ℕ) → Leaves n a b c → block < 2 ^ n → IsMultiple (bit_xor p rest) → IsMultiple (bit_xor (p * 2 ^ n + block) (bit_xor (bit_xor (bit_xor (rest * 2 ^ a) (rest * 2 ^ b)) (rest * 2 ^ c)) block))
unfolding times
more_block n a b c p rest block leaves fits before =
    let lower : ℕ = bit_xor (bit_xor (rest * 2 ^ a) (rest * 2 ^ b)) (rest * 2 ^ c) in
    let shifted = subst IsMultiple (sym (xor_pow p rest n)) (multiple_shifted (bit_xor p rest) n before) in
    let both = multiple_between (p * 2 ^ n) (rest * 2 ^ n) lower shifted (times-multiple n a b c rest leaves) in
    let same : bit_xor (p * 2 ^ n) lower ≡ bit_xor (p * 2 ^ n + block) (bit_xor lower block) =
    sym (xor_zero_r (bit_xor (p * 2 ^ n) lower)) ∙ ap (bit_xor (bit_xor (p * 2 ^ n) lower)) (sym (xor_self block))
    ∙ sym (xor_swap (p * 2 ^ n) block lower block) ∙ ap (λ x. bit_xor x (bit_xor lower block)) (xor_shifted p n block fits) in
    subst IsMultiple same both

pub four_lt : (k a b c d : ℕ) → a < 2 ^ k → b < 2 ^ k → c < 2 ^ k → d < 2 ^ k → bit_xor (bit_xor (bit_xor a b) c) d < 2 ^ k
four_lt k a b c d low_a low_b low_c low_d = xor_lt k _ d (xor_lt k _ c (xor_lt k a b low_a low_b) low_c) low_d

-- ---- the powers of x that leave three terms

pub leaves_96 : Leaves 96 7 4 1
unfolding times next power
leaves_96 = record { multiple = (power-remainder 96).multiple }

pub leaves_64 : Leaves 64 6 4 1
unfolding times next power
leaves_64 = record { multiple = (power-remainder 64).multiple }

pub leaves_38 : Leaves 38 8 2 0
unfolding times next power
leaves_38 = record { multiple = (power-remainder 38).multiple }

pub leaves_19 : Leaves 19 4 1 0
unfolding times next power
leaves_19 = record { multiple = (power-remainder 19).multiple }

pub leaves_14 : Leaves 14 5 4 0
unfolding times next power
leaves_14 = record { multiple = (power-remainder 14).multiple }

-- ---- each fold as the code computes it, where no shift loses a bit

pub same_64 : (p : ℕ) → p < 2 ^ 117 → IsMultiple (bit_xor p (bit_xor (bit_xor (bit_xor (p % 2 ^ 64) (p / 2 ^ 64 * 2 ^ 6 % 2 ^ 64)) (p / 2 ^ 64 * 2 ^ 4 % 2 ^ 64)) (p / 2 ^ 64 * 2 ^ 1 % 2 ^ 64)))
same_64 p fits =
    let at_6 : p / 2 ^ 64 * 2 ^ 6 % 2 ^ 64 ≡ p / 2 ^ 64 * 2 ^ 6 = omega arith in
    let at_4 : p / 2 ^ 64 * 2 ^ 4 % 2 ^ 64 ≡ p / 2 ^ 64 * 2 ^ 4 = omega arith in
    let at_1 : p / 2 ^ 64 * 2 ^ 1 % 2 ^ 64 ≡ p / 2 ^ 64 * 2 ^ 1 = omega arith in
    rw (at_6, at_4, at_1) (folded 64 6 4 1 p leaves_64)

pub low_38 : (p : ℕ) → p < 2 ^ 64 → bit_xor (bit_xor (bit_xor (p % 2 ^ 38) (p / 2 ^ 38 * 2 ^ 8 % 2 ^ 64)) (p / 2 ^ 38 * 2 ^ 2 % 2 ^ 64)) (p / 2 ^ 38) < 2 ^ 38
low_38 p fits =
    let at_8 : p / 2 ^ 38 * 2 ^ 8 % 2 ^ 64 ≡ p / 2 ^ 38 * 2 ^ 8 = omega arith in
    let at_2 : p / 2 ^ 38 * 2 ^ 2 % 2 ^ 64 ≡ p / 2 ^ 38 * 2 ^ 2 = omega arith in
    rw (at_8, at_2) (four_lt 38 (p % 2 ^ 38) (p / 2 ^ 38 * 2 ^ 8) (p / 2 ^ 38 * 2 ^ 2) (p / 2 ^ 38) (omega arith) (omega arith) (omega arith) (omega arith))

pub same_38 : (p : ℕ) → p < 2 ^ 64 → IsMultiple (bit_xor p (bit_xor (bit_xor (bit_xor (p % 2 ^ 38) (p / 2 ^ 38 * 2 ^ 8 % 2 ^ 64)) (p / 2 ^ 38 * 2 ^ 2 % 2 ^ 64)) (p / 2 ^ 38)))
same_38 p fits =
    let at_8 : p / 2 ^ 38 * 2 ^ 8 % 2 ^ 64 ≡ p / 2 ^ 38 * 2 ^ 8 = omega arith in
    let at_2 : p / 2 ^ 38 * 2 ^ 2 % 2 ^ 64 ≡ p / 2 ^ 38 * 2 ^ 2 = omega arith in
    rw (at_8, at_2) (folded_to_one 38 8 2 p leaves_38)

pub low_19 : (p : ℕ) → p < 2 ^ 38 → bit_xor (bit_xor (bit_xor (p % 2 ^ 19) (p / 2 ^ 19 * 2 ^ 4 % 2 ^ 64)) (p / 2 ^ 19 * 2 ^ 1 % 2 ^ 64)) (p / 2 ^ 19) < 2 ^ 23
low_19 p fits =
    let at_4 : p / 2 ^ 19 * 2 ^ 4 % 2 ^ 64 ≡ p / 2 ^ 19 * 2 ^ 4 = omega arith in
    let at_1 : p / 2 ^ 19 * 2 ^ 1 % 2 ^ 64 ≡ p / 2 ^ 19 * 2 ^ 1 = omega arith in
    rw (at_4, at_1) (four_lt 23 (p % 2 ^ 19) (p / 2 ^ 19 * 2 ^ 4) (p / 2 ^ 19 * 2 ^ 1) (p / 2 ^ 19) (omega arith) (omega arith) (omega arith) (omega arith))

pub same_19 : (p : ℕ) → p < 2 ^ 38 → IsMultiple (bit_xor p (bit_xor (bit_xor (bit_xor (p % 2 ^ 19) (p / 2 ^ 19 * 2 ^ 4 % 2 ^ 64)) (p / 2 ^ 19 * 2 ^ 1 % 2 ^ 64)) (p / 2 ^ 19)))
same_19 p fits =
    let at_4 : p / 2 ^ 19 * 2 ^ 4 % 2 ^ 64 ≡ p / 2 ^ 19 * 2 ^ 4 = omega arith in
    let at_1 : p / 2 ^ 19 * 2 ^ 1 % 2 ^ 64 ≡ p / 2 ^ 19 * 2 ^ 1 = omega arith in
    rw (at_4, at_1) (folded_to_one 19 4 1 p leaves_19)

pub low_14 : (p : ℕ) → p < 2 ^ 23 → bit_xor (bit_xor (bit_xor (p % 2 ^ 14) (p / 2 ^ 14 * 2 ^ 5 % 2 ^ 64)) (p / 2 ^ 14 * 2 ^ 4 % 2 ^ 64)) (p / 2 ^ 14) < 2 ^ 14
low_14 p fits =
    let at_5 : p / 2 ^ 14 * 2 ^ 5 % 2 ^ 64 ≡ p / 2 ^ 14 * 2 ^ 5 = omega arith in
    let at_4 : p / 2 ^ 14 * 2 ^ 4 % 2 ^ 64 ≡ p / 2 ^ 14 * 2 ^ 4 = omega arith in
    rw (at_5, at_4) (four_lt 14 (p % 2 ^ 14) (p / 2 ^ 14 * 2 ^ 5) (p / 2 ^ 14 * 2 ^ 4) (p / 2 ^ 14) (omega arith) (omega arith) (omega arith) (omega arith))

pub same_14 : (p : ℕ) → p < 2 ^ 23 → IsMultiple (bit_xor p (bit_xor (bit_xor (bit_xor (p % 2 ^ 14) (p / 2 ^ 14 * 2 ^ 5 % 2 ^ 64)) (p / 2 ^ 14 * 2 ^ 4 % 2 ^ 64)) (p / 2 ^ 14)))
same_14 p fits =
    let at_5 : p / 2 ^ 14 * 2 ^ 5 % 2 ^ 64 ≡ p / 2 ^ 14 * 2 ^ 5 = omega arith in
    let at_4 : p / 2 ^ 14 * 2 ^ 4 % 2 ^ 64 ≡ p / 2 ^ 14 * 2 ^ 4 = omega arith in
    rw (at_5, at_4) (folded_to_one 14 5 4 p leaves_14)

pub low_10 : (p : ℕ) → p < 2 ^ 14 → bit_xor (p % 2 ^ 10) (get_or table (p / 2 ^ 10) 0) < 2 ^ 10
low_10 p fits = (with_rest p (get_or table (p / 2 ^ 10) 0) (table-divided (p / 2 ^ 10) (omega arith))).degree

pub same_10 : (p : ℕ) → p < 2 ^ 14 → IsMultiple (bit_xor p (bit_xor (p % 2 ^ 10) (get_or table (p / 2 ^ 10) 0)))
same_10 p fits = (with_rest p (get_or table (p / 2 ^ 10) 0) (table-divided (p / 2 ^ 10) (omega arith))).multiple

-- the last of three shifts of the rest, and the block
shifts : (rest : ℕ) → rest < 2 ^ 110 → (rest * 2 ^ 7 % 2 ^ 128 ≡ rest * 2 ^ 7) × (rest * 2 ^ 4 % 2 ^ 128 ≡ rest * 2 ^ 4) × (rest * 2 ^ 1 % 2 ^ 128 ≡ rest * 2 ^ 1)
shifts rest fits = (omega arith, omega arith, omega arith)

pub low_96 : (rest block k : ℕ) → rest < 2 ^ 110 → block < 2 ^ 96 → 89 ≤ k → rest < 2 ^ k → bit_xor (bit_xor (bit_xor (rest * 2 ^ 7 % 2 ^ 128) (rest * 2 ^ 4 % 2 ^ 128)) (rest * 2 ^ 1 % 2 ^ 128)) block < 2 ^ (k + 7)
low_96 rest block k fits short long low =
    let whole = shifts rest fits in
    let power = pow-add 2 k 7 in
    let more : 96 ≤ k + 7 = omega arith in
    let above : 2 ^ 96 ≤ 2 ^ (k + 7) = pow_mono more in
    rw (whole.0, whole.1, whole.2) (four_lt (k + 7) (rest * 2 ^ 7) (rest * 2 ^ 4) (rest * 2 ^ 1) block (omega arith) (omega arith) (omega arith) (omega arith))

pub same_96 : (p rest block : ℕ) → rest < 2 ^ 110 → block < 2 ^ 96 → IsMultiple (bit_xor p rest) → IsMultiple (bit_xor (p * 2 ^ 96 + block) (bit_xor (bit_xor (bit_xor (rest * 2 ^ 7 % 2 ^ 128) (rest * 2 ^ 4 % 2 ^ 128)) (rest * 2 ^ 1 % 2 ^ 128)) block))
same_96 p rest block fits short before =
    let whole = shifts rest fits in
    rw (whole.0, whole.1, whole.2) (more_block 96 7 4 1 p rest block leaves_96 short before)
