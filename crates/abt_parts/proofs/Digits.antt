-- Octets that are a number are text.
use Rattle.std.proofs.Common.{◌≡◌, ◌&&◌, ◌<◌, ◌≤◌, Bool, List, [], ◌∷◌, ℕ, inl, inr, refl, true, false, arith, true≢false, sym, zero, suc, slice_index, length}
use Rattle.std.proofs.lemmas.Bool.{cases_Bool, leb-true}
use Rattle.std.proofs.lemmas.Str.{IsUtf8-from_ascii}
use Rattle.std.proofs.lemmas.Str.Ascii.{IsAscii-nil}
use Rattle.std.specs.Prelude.{None, IsUtf8, IsAscii, nat_le}
use Rattle.std.specs.Char.{is_ascii_digit}
use Rattle.std.specs.List.{list_all}
use Rattle.abt_text.specs.Words.{is_number, number_of}

both : (a b : Bool) → (a && b) ≡ true → (a ≡ true) × (b ≡ true)
both true b h = (refl, h)
both false b h = absurd (true≢false (sym h))

digit_ascii : (octet : ℕ) → is_ascii_digit octet ≡ true → octet < 128
digit_ascii octet h = let high : octet ≤ 57 = leb-true octet 57 ((both (nat_le 48 octet) (nat_le octet 57) h).1) in omega (arith, high)

digit_here : (octet : ℕ) (octets : List ℕ) (i : ℕ) → octet < 128 → IsAscii octets → slice_index (octet ∷ octets) i < 128
digit_here octet octets zero low ascii = low
digit_here octet octets (suc i) low ascii = ascii i

digits_ascii : (octets : List ℕ) → list_all is_ascii_digit octets ≡ true → IsAscii octets
digits_ascii [] h = IsAscii-nil
digits_ascii (octet ∷ octets) h = λ i. digit_here octet octets i (digit_ascii octet ((both _ _ h).0)) (digits_ascii octets ((both _ _ h).1))

last_of : (a b c : Bool) → (a && b && c) ≡ true → c ≡ true
last_of true true c h = h
last_of true false c h = absurd (true≢false (sym h))
last_of false b c h = absurd (true≢false (sym h))

number_digits : (octets : List ℕ) → is_number octets ≡ true → list_all is_ascii_digit octets ≡ true
number_digits octets = last_of (nat_le 1 (length octets)) (nat_le (length octets) 19) (list_all is_ascii_digit octets)

-- what isn't text is no number
pub no_number : (octets : List ℕ) → (IsUtf8 octets → ⊥) → None ≡ number_of octets
no_number octets other = elim (cases_Bool (is_number octets)) [
  | inl is ↦ absurd (other (IsUtf8-from_ascii octets (digits_ascii octets (number_digits octets is))))
  | inr other_octets ↦ rw other_octets refl
]
