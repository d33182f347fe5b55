-- Multiples of the generator.
use Rattle.std.proofs.Common.{◌≡◌, ℕ, ◌+◌, ◌*◌, ◌/◌, ◌^◌, ◌<◌, ◌≤◌, ◌⊎◌, inl, inr, List, [], ◌∷◌, Bool, true, false, cond, arith, ap, sym, subst, ◌∙◌, refl, suc, zero}
use Rattle.std.proofs.lemmas.Bool.{le-leb, lt-leb}
use Rattle.std.specs.Int.Bits.{bit_xor, xor_assoc, xor_comm, xor_self, xor_zero_l, xor_zero_r, xor_block, xor_shr, xor_lt}
use Rattle.std.proofs.lemmas.Nat.{pow_pos, pow-add, le-div}
use Rattle.std.proofs.Math.Nat.{mul-one, mul_assoc, pow-suc, div-eq_of_lt, div-mul-le_self, mul-le-mul_right, add-zero, div-eq_of_lt-le, lt-div-mul-add, zero-mul}
use Rattle.abt_cell.specs.Polynomial.{generator, product, IsMultiple, IsRemainder}
use Rattle.abt_cell.specs.Division.{divided}

pub xor_pow : (a b k : ℕ) → bit_xor (a * 2 ^ k) (b * 2 ^ k) ≡ bit_xor a b * 2 ^ k
xor_pow a b k =
    let power = pow_pos k in
    rw (← add-zero (a * 2 ^ k), ← add-zero (b * 2 ^ k)) (xor_block k a b 0 0 power power ∙ add-zero _)

pub xor_double : (a b : ℕ) → bit_xor (a * 2) (b * 2) ≡ bit_xor a b * 2
xor_double a b = xor_pow a b 1

-- the sum, by the coefficients
sum : List Bool → List Bool → List Bool
sum [] ds = ds
sum (c ∷ cs) [] = c ∷ cs
sum (c ∷ cs) (d ∷ ds) = cond c (cond d false true) d ∷ sum cs ds

pub xor_swap : (a b c d : ℕ) → bit_xor (bit_xor a b) (bit_xor c d) ≡ bit_xor (bit_xor a c) (bit_xor b d)
xor_swap a b c d =
    xor_assoc a b (bit_xor c d)
    ∙ ap (bit_xor a) (sym (xor_assoc b c d) ∙ ap (λ x. bit_xor x d) (xor_comm b c) ∙ xor_assoc c b d)
    ∙ sym (xor_assoc a c (bit_xor b d))

-- ---- sums and products

chosen-sum : (c d : Bool) (p : ℕ) → cond (cond c (cond d false true) d) p 0 ≡ bit_xor (cond c p 0) (cond d p 0)
chosen-sum false d p = sym (xor_zero_l (cond d p 0))
chosen-sum true false p = sym (xor_zero_r p)
chosen-sum true true p = sym (xor_self p)

product-sum : (cs ds : List Bool) (p : ℕ) → product (sum cs ds) p ≡ bit_xor (product cs p) (product ds p)
unfolding sum
product-sum [] ds p = sym (xor_zero_l (product ds p))
product-sum (c ∷ cs) [] p = sym (xor_zero_r (product (c ∷ cs) p))
product-sum (c ∷ cs) (d ∷ ds) p =
    let tails = ap (λ x. x * 2) (product-sum cs ds p) ∙ sym (xor_double (product cs p) (product ds p)) in
    let heads = chosen-sum c d p in
    rw (heads, tails) (xor_swap (cond c p 0) (cond d p 0) (product cs p * 2) (product ds p * 2))

product-doubled : (cs : List Bool) (p : ℕ) → product (false ∷ cs) p ≡ product cs p * 2
product-doubled cs p = refl

pub multiple_zero : IsMultiple 0
multiple_zero = record { quotient = []; product_is = refl }

pub multiple_generator : IsMultiple generator
multiple_generator = record { quotient = true ∷ []; product_is = refl }

pub multiple_double : (p : ℕ) → IsMultiple p → IsMultiple (p * 2)
multiple_double p multiple = record { quotient = false ∷ multiple.quotient; product_is = ap (λ x. x * 2) multiple.product_is }

pub multiple_sum : (p q : ℕ) → IsMultiple p → IsMultiple q → IsMultiple (bit_xor p q)
multiple_sum p q a b = record {
  quotient = sum a.quotient b.quotient;
  product_is = product-sum a.quotient b.quotient generator ∙ rw (a.product_is, b.product_is);
}

pub multiple_shifted : (p k : ℕ) → IsMultiple p → IsMultiple (p * 2 ^ k)
multiple_shifted p zero multiple = rw (mul-one p) multiple
multiple_shifted p (suc k) multiple =
    subst IsMultiple (mul_assoc p (2 ^ k) 2 ∙ ap (λ x. p * x) (sym (pow-suc 2 k))) (multiple_double (p * 2 ^ k) (multiple_shifted p k multiple))

-- ---- degrees

xor_high : (a b k : ℕ) → 2 ^ k ≤ a → b < 2 ^ k → 2 ^ k ≤ bit_xor a b
xor_high a b k high low =
    let low_zero : b / 2 ^ k ≡ 0 = div-eq_of_lt low in
    let high_one : 1 ≤ a / 2 ^ k = le-div 1 a (2 ^ k) (pow_pos k) (omega arith) in
    let shifted : bit_xor a b / 2 ^ k ≡ a / 2 ^ k = xor_shr a b k ∙ ap (bit_xor (a / 2 ^ k)) low_zero ∙ xor_zero_r (a / 2 ^ k) in
    let times = div-mul-le_self (bit_xor a b) (2 ^ k) in
    let least : 1 ≤ bit_xor a b / 2 ^ k = omega arith in
    let product = mul-le-mul_right (2 ^ k) least in
    omega arith

term_low : (c : Bool) → cond c generator 0 < 2 ^ 11
term_low false = omega arith
term_low true = omega arith

degree_more : (c : Bool) (t : ℕ) → (t ≡ 0) ⊎ (2 ^ 10 ≤ t) → (bit_xor (cond c generator 0) (t * 2) ≡ 0) ⊎ (2 ^ 10 ≤ bit_xor (cond c generator 0) (t * 2))
degree_more false t (inl none) = inl (rw none)
degree_more true t (inl none) = inr (rw none (omega arith))
degree_more c t (inr high) =
    let double : 2 ^ 11 ≤ t * 2 = omega arith in
    let more = xor_high (t * 2) (cond c generator 0) 11 double (term_low c) in
    inr (rw (xor_comm (cond c generator 0) (t * 2)) (omega arith))

product_degree : (cs : List Bool) → (product cs generator ≡ 0) ⊎ (2 ^ 10 ≤ product cs generator)
product_degree [] = inl refl
product_degree (c ∷ cs) = degree_more c (product cs generator) (product_degree cs)

-- a multiple of a degree below ten is 0
pub multiple_low : (p : ℕ) → IsMultiple p → p < 2 ^ 10 → p ≡ 0
multiple_low p multiple low =
    elim (product_degree multiple.quotient) as (λ _. p ≡ 0) [
      | inl none ↦ sym multiple.product_is ∙ none
      | inr high ↦ let is = multiple.product_is in absurd (omega arith)
    ]

-- ---- remainders

pub remainder_only : (p r s : ℕ) → IsRemainder p r → IsRemainder p s → r ≡ s
remainder_only p r s a b =
    let both = multiple_sum (bit_xor p r) (bit_xor p s) a.multiple b.multiple in
    let cancelled : bit_xor (bit_xor p r) (bit_xor p s) ≡ bit_xor r s = xor_swap p r p s ∙ ap (λ x. bit_xor x (bit_xor r s)) (xor_self p) ∙ xor_zero_l (bit_xor r s) in
    let none = multiple_low (bit_xor r s) (subst IsMultiple cancelled both) (xor_lt 10 r s a.degree b.degree) in
    sym (xor_zero_r r) ∙ ap (bit_xor r) (sym none) ∙ sym (xor_assoc r r s) ∙ ap (λ x. bit_xor x s) (xor_self r) ∙ xor_zero_l s

-- ---- one step of a long division

quotient_one : (a k : ℕ) → 2 ^ k ≤ a → a < 2 * 2 ^ k → a / 2 ^ k ≡ 1
quotient_one a k low high =
    let once : 1 * 2 ^ k ≤ a = omega arith in
    let twice : a < (1 + 1) * 2 ^ k = omega arith in
    div-eq_of_lt-le (2 ^ k) once twice

reduced : (a b k : ℕ) → 2 ^ k ≤ a → a < 2 * 2 ^ k → 2 ^ k ≤ b → b < 2 * 2 ^ k → bit_xor a b < 2 ^ k
reduced a b k low_a high_a low_b high_b =
    let none : bit_xor a b / 2 ^ k ≡ 0 = xor_shr a b k ∙ rw (quotient_one a k low_a high_a, quotient_one b k low_b high_b) in
    let remains : bit_xor a b < bit_xor a b / 2 ^ k * 2 ^ k + 2 ^ k = lt-div-mul-add (pow_pos k) in
    let product : bit_xor a b / 2 ^ k * 2 ^ k ≡ 0 = rw none (zero-mul (2 ^ k)) in
    omega arith

pub step_low : (rest degree : ℕ) → rest < 2 ^ (degree + 1 + 10) → 2 ^ (degree + 10) ≤ rest → bit_xor rest (generator * 2 ^ degree) < 2 ^ (degree + 10)
step_low rest degree high low =
    let split = pow-add 2 degree 10 in
    let order : degree + 1 + 10 ≡ 1 + (degree + 10) = omega arith in
    let double : 2 ^ (degree + 1 + 10) ≡ 2 * 2 ^ (degree + 10) = ap (λ k. 2 ^ k) order ∙ pow-add 2 1 (degree + 10) in
    reduced rest (generator * 2 ^ degree) (degree + 10) low (omega arith) (omega arith) (omega arith)

pub step_multiple : (start rest degree : ℕ) → IsMultiple (bit_xor start rest) → IsMultiple (bit_xor start (bit_xor rest (generator * 2 ^ degree)))
step_multiple start rest degree multiple =
    subst IsMultiple (xor_assoc start rest (generator * 2 ^ degree))
    (multiple_sum (bit_xor start rest) (generator * 2 ^ degree) multiple (multiple_shifted generator degree multiple_generator))

-- what a step took away and what was taken away before
pub multiple_between : (a b c : ℕ) → IsMultiple (bit_xor a b) → IsMultiple (bit_xor b c) → IsMultiple (bit_xor a c)
multiple_between a b c first second =
    let cancelled : bit_xor (bit_xor a b) (bit_xor b c) ≡ bit_xor a c =
    xor_assoc a b (bit_xor b c) ∙ ap (bit_xor a) (sym (xor_assoc b b c) ∙ ap (λ x. bit_xor x c) (xor_self b) ∙ xor_zero_l c) in
    subst IsMultiple cancelled (multiple_sum (bit_xor a b) (bit_xor b c) first second)

pub more_octet : (p r octet rest : ℕ) → octet < 2 ^ 8 → IsRemainder p r → rest < 2 ^ 10 → IsMultiple (bit_xor (r * 2 ^ 8 + octet) rest) → IsRemainder (p * 2 ^ 8 + octet) rest
more_octet p r octet rest fits before low reduced_by =
    let shifted : bit_xor (p * 2 ^ 8 + octet) (r * 2 ^ 8 + octet) ≡ bit_xor p r * 2 ^ 8 =
    xor_block 8 p r octet octet fits fits ∙ ap (λ x. bit_xor p r * 2 ^ 8 + x) (xor_self octet) ∙ add-zero _ in
    record {
      degree = low;
      multiple = multiple_between (p * 2 ^ 8 + octet) (r * 2 ^ 8 + octet) rest
          (subst IsMultiple (sym shifted) (multiple_shifted (bit_xor p r) 8 before.multiple)) reduced_by;
    }

pub multiple_from_none : (p r : ℕ) → IsRemainder p r → r ≡ 0 → IsMultiple p
multiple_from_none p r whole none = subst IsMultiple (ap (bit_xor p) none ∙ xor_zero_r p) whole.multiple

pub none_from_multiple : (p r : ℕ) → IsRemainder p r → IsMultiple p → r ≡ 0
none_from_multiple p r whole multiple =
    let low : 0 < 2 ^ 10 = omega arith in
    remainder_only p r 0 whole (record { degree = low; multiple = subst IsMultiple (sym (xor_zero_r p)) multiple })

-- ---- the division that computes

pub divided-zero : (p : ℕ) → divided zero p ≡ p
unfolding divided
divided-zero p = refl

pub divided-taken : (degree p : ℕ) → 2 ^ (degree + 10) ≤ p → divided (suc degree) p ≡ divided degree (bit_xor p (generator * 2 ^ degree))
unfolding divided
divided-taken degree p high = ap (divided degree) (rw (le-leb (2 ^ (degree + 10)) p high))

pub divided-left : (degree p : ℕ) → p < 2 ^ (degree + 10) → divided (suc degree) p ≡ divided degree p
unfolding divided
divided-left degree p low = ap (divided degree) (rw (lt-leb (2 ^ (degree + 10)) p low))
