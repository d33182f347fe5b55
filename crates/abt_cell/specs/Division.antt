-- The remainder of a polynomial by a long division: how the check is found. What it is stands in `Polynomial`.
use Rattle.std.specs.Prelude.{ℕ, ◌+◌, ◌*◌, ◌^◌, List, if◌then◌else◌, bit_xor, fold, nat_le, zero, suc}
use Rattle.abt_cell.specs.Polynomial.{generator}

-- Takes x^degree times the generator away from a polynomial of degree `degree + 10`.
abbrev pub step : ℕ → ℕ → ℕ
step degree p = if nat_le (2 ^ (degree + 10)) p then bit_xor p (generator * 2 ^ degree) else p

unfoldable pub divided : ℕ → ℕ → ℕ
divided zero p = p
divided (suc degree) p = divided degree (step degree p)

-- the remainder of the polynomial of octets
abbrev pub remainder_of : List ℕ → ℕ
remainder_of octets = fold (λ r octet. divided 8 (r * 2 ^ 8 + octet)) 0 octets
