-- A cell whose payload changed is refused where the error polynomial is no multiple of the generator.
use Rattle.std.proofs.Common.{◌≡◌, ℕ, ◌+◌, ◌*◌, ◌/◌, ◌%◌, ◌^◌, ◌<◌, List, [], ◌∷◌, Err, length, get_or, length-drop, fold, arith, ap, sym, subst, ◌∙◌, suc, refl}
use Rattle.std.proofs.lemmas.Bool.{eq-eqb, ne_eqb}
use Rattle.std.proofs.lemmas.List.{get_or-drop}
use Rattle.std.proofs.lemmas.Nat.{pow-add}
use Rattle.std.specs.Int.Bits.{xor_lt}
use Rattle.abt_cell.specs.Codec.{read_of}
use Rattle.abt_cell.specs.Damage.{IsDamaged, error_of}
use Rattle.abt_cell.specs.Division.{remainder_of}
use Rattle.abt_cell.specs.Layout.{IsCell, pti_of, payload_of}
use Rattle.abt_cell.specs.Polynomial.{polynomial_of, IsMultiple}
use Rattle.abt_cell.specs.declared.message.Rm.{Rm}
use Rattle.abt_cell.specs.declared.fault.RmFault.TheVariants.{Crc}
use Rattle.abt_cell.proofs.Multiples.{multiple_sum, multiple_from_none}
use Rattle.abt_cell.proofs.Remainders.{remainder_of-is}

payload-octets : (cell : List ℕ) → IsCell cell → (place : ℕ) → get_or (payload_of cell) place 0 < 2 ^ 8
payload-octets cell is place = rw (get_or-drop 4 cell place 0) (is.octets (4 + place))

-- ---- the degree of a payload's polynomial

octet-lt : (p k octet : ℕ) → p < 2 ^ k → octet < 2 ^ 8 → p * 2 ^ 8 + octet < 2 ^ (k + 8)
octet-lt p k octet low fits = let power = pow-add 2 k 8 in omega arith

octets-lt : (octets : List ℕ) (p k : ℕ) → p < 2 ^ k → ((place : ℕ) → get_or octets place 0 < 2 ^ 8) → fold (λ p octet. p * 2 ^ 8 + octet) p octets < 2 ^ (k + 8 * length octets)
octets-lt [] p k low fit = let same : k + 8 * 0 ≡ k = omega arith in subst (λ n. p < 2 ^ n) (sym same) low
octets-lt (octet ∷ octets) p k low fit =
    let more : k + 8 * suc (length octets) ≡ k + 8 + 8 * length octets = omega arith in
    subst (λ n. fold (λ p octet. p * 2 ^ 8 + octet) (p * 2 ^ 8 + octet) octets < 2 ^ n) (sym more)
    (octets-lt octets (p * 2 ^ 8 + octet) (k + 8) (octet-lt p k octet low (fit 0)) (λ place. fit (suc place)))

payload-lt : (cell : List ℕ) → IsCell cell → polynomial_of (payload_of cell) < 2 ^ 384
payload-lt cell is =
    let long = is.long in
    let short = length-drop 4 cell in
    let bits : 0 + 8 * length (payload_of cell) ≡ 384 = omega arith in
    subst (λ n. polynomial_of (payload_of cell) < 2 ^ n) bits (octets-lt (payload_of cell) 0 0 (omega arith) (payload-octets cell is))

pub error-lt : (rm : Rm) (sent received : List ℕ) → IsDamaged rm sent received → error_of sent received < 2 ^ 384
error-lt rm sent received damaged =
    xor_lt 384 _ _ (payload-lt sent damaged.sent_cell) (payload-lt received damaged.received_cell)

-- ---- what is read

refused : (cell : List ℕ) → IsCell cell → pti_of cell ≡ 6 → ¬ IsMultiple (polynomial_of (payload_of cell)) → read_of cell ≡ Err Crc
unfolding read_of
refused cell is pti wrong =
    let some : ¬ (remainder_of (payload_of cell) ≡ 0) =
    λ none. wrong (multiple_from_none _ _ (remainder_of-is (payload_of cell) (payload-octets cell is)) none) in
    rw (eq-eqb (pti_of cell) 6 pti, ne_eqb (remainder_of (payload_of cell)) 0 some) refl

pub damaged_refused : (rm : Rm) (sent received : List ℕ) → IsDamaged rm sent received → ¬ IsMultiple (error_of sent received) → read_of received ≡ Err Crc
damaged_refused rm sent received damaged shows =
    refused received damaged.received_cell (ap (λ h. h / 2 % 2 ^ 3) damaged.header ∙ damaged.readable.pti)
    (λ multiple. shows (multiple_sum _ _ damaged.readable.check multiple))
