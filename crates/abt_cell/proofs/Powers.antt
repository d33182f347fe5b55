-- The remainders of the powers of x.
use Rattle.std.proofs.Common.{◌≡◌, ℕ, ◌*◌, ◌^◌, cond, arith, sym, subst, suc, zero, ltb}
use Rattle.std.proofs.lemmas.Bool.{ltb-true, ltb-false, cond_both}
use Rattle.std.specs.Int.Bits.{bit_xor}
use Rattle.std.proofs.Math.Nat.{pow-suc}
use Rattle.abt_cell.specs.Polynomial.{generator, IsMultiple, IsRemainder}
use Rattle.abt_cell.proofs.Multiples.{multiple_zero, multiple_double, step_low, step_multiple, xor_pow}

-- x times a remainder, without the generator
unfoldable pub next : ℕ → ℕ
next r = cond (ltb r (2 ^ 9)) (r * 2) (bit_xor (r * 2) generator)

unfoldable pub power : ℕ → ℕ
power zero = 1
power (suc d) = next (power d)

next-remainder : (p r : ℕ) → IsRemainder p r → IsRemainder (p * 2) (next r)
unfolding next
next-remainder p r before =
    let twice = multiple_double (bit_xor p r) before.multiple in
    let doubled : bit_xor (p * 2) (r * 2) ≡ bit_xor p r * 2 = xor_pow p r 1 in
    let degree = before.degree in
    let both : IsMultiple (bit_xor (p * 2) (r * 2)) = subst IsMultiple (sym doubled) twice in
    cond_both (ltb r (2 ^ 9)) (r * 2) (bit_xor (r * 2) generator) (IsRemainder (p * 2))
    (λ less. let low = ltb-true r (2 ^ 9) less in record { degree = omega arith; multiple = both })
    (λ more. let high = ltb-false r (2 ^ 9) more in record {
      degree = step_low (r * 2) 0 (omega arith) (omega arith);
      multiple = step_multiple (p * 2) (r * 2) 0 both;
    })

pub power-remainder : (d : ℕ) → IsRemainder (2 ^ d) (power d)
unfolding power
power-remainder zero = record { degree = omega arith; multiple = multiple_zero }
power-remainder (suc d) = rw (pow-suc 2 d) (next-remainder (2 ^ d) (power d) (power-remainder d))
