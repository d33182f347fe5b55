-- Polynomials over the field of two elements, as numbers: bit i is the coefficient of x^i.
-- `bit_xor` is their sum, and `* 2` multiplies by x.
use Rattle.std.specs.Prelude.{◌≡◌, ℕ, ◌+◌, ◌*◌, ◌/◌, ◌^◌, ◌<◌, List, [], ◌∷◌, Bool, if◌then◌else◌, bit_xor, fold}

-- x^10 + x^9 + x^5 + x^4 + x + 1
abbrev pub generator : ℕ
generator = 0x633

-- the product of two polynomials, the first by its coefficients from the lowest on
abbrev pub product : List Bool → ℕ → ℕ
product [] p = 0
product (c ∷ cs) p = bit_xor (if c then p else 0) (product cs p * 2)

-- a polynomial times the generator
pub record IsMultiple (p : ℕ) : Type 0 where
  pub quotient : List Bool
  pub product_is : product quotient generator ≡ p

-- p is a multiple of the generator and r, of a degree below ten.
pub record IsRemainder (p r : ℕ) : Type 0 where
  pub degree : r < 2 ^ 10
  pub multiple : IsMultiple (bit_xor p r)

-- the polynomial of octets: each has eight coefficients, the highest first
abbrev pub polynomial_of : List ℕ → ℕ
polynomial_of octets = fold (λ p octet. p * 2 ^ 8 + octet) 0 octets

-- the polynomial of octets without its ten lowest coefficients, which are the place of the check: x^10 times that of the
-- bits before it
abbrev pub unchecked_part : List ℕ → ℕ
unchecked_part octets = polynomial_of octets / 2 ^ 10 * 2 ^ 10
