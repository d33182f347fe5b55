-- Digits in pairs, and the octets that they spell.
use Rattle.std.proofs.Common.{◌≡◌, ◌∙◌, ℕ, ◌+◌, ◌*◌, ◌<◌, ◌≤◌, List, inl, inr, refl, sym, ap, subst, arith, Ok, Option, length, get_or, set}
use Rattle.std.proofs.lemmas.Bool.{cases_eq}
use Rattle.std.proofs.lemmas.Grind.{get_or-set_at}
use Rattle.std.proofs.lemmas.List.{get_or-set_other}
use Rattle.std.specs.Prelude.{Some, None, unwrap_or}
use Rattle.hex.specs.Hex.{hex_digit_value, pair_value}
use Rattle.abt_parts.specs.HexValues.{value_or_16}

is_some : (found : Option ℕ) (value : ℕ) → value ≡ unwrap_or found 16 → value ≤ 15 → found ≡ Some value
is_some None value is low = absurd (omega (arith, is, low))
is_some (Some v) value is low = ap Some (sym is)

-- two digits whose values are below 16
pub pair_is : (i high low a b : ℕ) → a ≡ value_or_16 high → b ≡ value_or_16 low → a ≤ 15 → b ≤ 15 → pair_value high low i ≡ Ok (a * 16 + b)
pair_is i high low a b is_a is_b low_a low_b =
    let digit_a : hex_digit_value high ≡ Some a = is_some (hex_digit_value high) a is_a low_a in
    let digit_b : hex_digit_value low ≡ Some b = is_some (hex_digit_value low) b is_b low_b in
    rw (digit_a, digit_b) refl

-- the values so far, and one more
pub value_next : (digits values : List ℕ) (i value : ℕ) → i < length values
    → ((k : ℕ) → k < i → get_or values k 0 ≡ value_or_16 (get_or digits k 0)) → value ≡ value_or_16 (get_or digits i 0)
    → (k : ℕ) → k < i + 1 → get_or (set values i value) k 0 ≡ value_or_16 (get_or digits k 0)
value_next digits values i value low are is k within = elim (cases_eq k i) [
  | inl same ↦ get_or-set_at values i k value 0 same low ∙ is ∙ ap (λ n. value_or_16 (get_or digits n 0)) (sym same)
  | inr differ ↦ get_or-set_other values i k value 0 differ ∙ are k (omega (arith, within, differ))
]

-- and the greatest of them
pub most_next : (values : List ℕ) (i value most next : ℕ) → i < length values → ((k : ℕ) → k < i → get_or values k 0 ≤ most) → value ≤ next → most ≤ next
    → (k : ℕ) → k < i + 1 → get_or (set values i value) k 0 ≤ next
most_next values i value most next low are new old k within = elim (cases_eq k i) [
  | inl same ↦ subst (λ n. n ≤ next) (sym (get_or-set_at values i k value 0 same low)) new
  | inr differ ↦ subst (λ n. n ≤ next) (sym (get_or-set_other values i k value 0 differ)) (let before = are k (omega (arith, within, differ)) in omega (arith, before, old))
]
