-- The remainder that is computed is the remainder.
use Rattle.std.proofs.Common.{◌≡◌, ℕ, ◌+◌, ◌*◌, ◌^◌, ◌<◌, inl, inr, List, [], ◌∷◌, Bool, true, ◌&&◌, eqb, get_or, fold, arith, sym, subst, refl, suc, zero}
use Rattle.std.proofs.lemmas.Bool.{cases_lt, cases_eq, and_parts, eqb-true}
use Rattle.std.specs.Int.Bits.{bit_xor, xor_self}
use Rattle.abt_cell.specs.Polynomial.{polynomial_of, IsMultiple, IsRemainder}
use Rattle.abt_cell.specs.Division.{divided, remainder_of}
use Rattle.abt_cell.proofs.Multiples.{multiple_zero, step_low, step_multiple, more_octet, divided-zero, divided-taken, divided-left}

pub record IsDivided (start rest : ℕ) : Type 0 where
  pub degree : rest < 2 ^ 10
  pub multiple : IsMultiple (bit_xor start rest)

divided-is : (degree start rest : ℕ) → rest < 2 ^ (degree + 10) → IsMultiple (bit_xor start rest) → IsDivided start (divided degree rest)
divided-is zero start rest low multiple =
    let ten : 0 + 10 ≡ 10 = omega arith in
    subst (IsDivided start) (sym (divided-zero rest)) (record { degree = subst (λ k. rest < 2 ^ k) ten low; multiple = multiple })
divided-is (suc degree) start rest low multiple =
    elim (cases_lt rest (2 ^ (degree + 10))) as (λ _. IsDivided start (divided (suc degree) rest)) [
      | inl left ↦ subst (IsDivided start) (sym (divided-left degree rest left)) (divided-is degree start rest left multiple)
      | inr taken ↦
          let place : suc degree + 10 ≡ degree + 1 + 10 = omega arith in
          subst (IsDivided start) (sym (divided-taken degree rest taken))
          (divided-is degree start _ (step_low rest degree (subst (λ k. rest < 2 ^ k) place low) taken) (step_multiple start rest degree multiple))
    ]

-- ---- the table of x^10 times each polynomial of a degree below four

abbrev pub table : List ℕ
table = 0x000 ∷ 0x233 ∷ 0x255 ∷ 0x066 ∷ 0x299 ∷ 0x0aa ∷ 0x0cc ∷ 0x2ff ∷ 0x301 ∷ 0x132 ∷ 0x154 ∷ 0x367 ∷ 0x198 ∷ 0x3ab ∷ 0x3cd ∷ 0x1fe ∷ []

agrees : ℕ → Bool
agrees zero = true
agrees (suc n) = eqb (get_or table n 0) (divided 4 (n * 2 ^ 10)) && agrees n

all_agree : agrees 16 ≡ true
unfolding agrees divided
all_agree = refl

entry : (n t : ℕ) → agrees n ≡ true → t < n → get_or table t 0 ≡ divided 4 (t * 2 ^ 10)
unfolding agrees
entry zero t all within = absurd (omega arith)
entry (suc n) t all within =
    let parts = and_parts (eqb (get_or table n 0) (divided 4 (n * 2 ^ 10))) (agrees n) all in
    elim (cases_eq t n) as (λ _. get_or table t 0 ≡ divided 4 (t * 2 ^ 10)) [
      | inl here ↦ subst (λ m. get_or table m 0 ≡ divided 4 (m * 2 ^ 10)) (sym here) (eqb-true (get_or table n 0) (divided 4 (n * 2 ^ 10)) parts.0)
      | inr below ↦ entry n t parts.1 (omega arith)
    ]

pub table-divided : (t : ℕ) → t < 16 → IsDivided (t * 2 ^ 10) (get_or table t 0)
table-divided t within =
    let low : t * 2 ^ 10 < 2 ^ (4 + 10) = omega arith in
    subst (IsDivided (t * 2 ^ 10)) (sym (entry 16 t all_agree within))
    (divided-is 4 (t * 2 ^ 10) (t * 2 ^ 10) low (subst IsMultiple (sym (xor_self (t * 2 ^ 10))) multiple_zero))

-- ---- octets

octet-lt : (r octet : ℕ) → r < 2 ^ 10 → octet < 2 ^ 8 → r * 2 ^ 8 + octet < 2 ^ (8 + 10)
octet-lt r octet low fits = omega arith

pub octet-remainder : (p r octet : ℕ) → octet < 2 ^ 8 → IsRemainder p r → IsRemainder (p * 2 ^ 8 + octet) (divided 8 (r * 2 ^ 8 + octet))
octet-remainder p r octet fits before =
    let start : ℕ = r * 2 ^ 8 + octet in
    let is = divided-is 8 start start (octet-lt r octet before.degree fits) (subst IsMultiple (sym (xor_self start)) multiple_zero) in
    more_octet p r octet (divided 8 start) fits before is.degree is.multiple

octets-remainder : (octets : List ℕ) (p r : ℕ) → ((place : ℕ) → get_or octets place 0 < 2 ^ 8) → IsRemainder p r → IsRemainder (fold (λ p octet. p * 2 ^ 8 + octet) p octets) (fold (λ r octet. divided 8 (r * 2 ^ 8 + octet)) r octets)
octets-remainder [] p r fit before = before
octets-remainder (octet ∷ octets) p r fit before =
    octets-remainder octets (p * 2 ^ 8 + octet) (divided 8 (r * 2 ^ 8 + octet)) (λ place. fit (suc place)) (octet-remainder p r octet (fit 0) before)

pub remainder_of-is : (octets : List ℕ) → ((place : ℕ) → get_or octets place 0 < 2 ^ 8) → IsRemainder (polynomial_of octets) (remainder_of octets)
remainder_of-is octets fit = octets-remainder octets 0 0 fit (record { degree = omega arith; multiple = multiple_zero })
