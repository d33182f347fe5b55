-- What is written of numbers, rates, channels, requests and answers is read back.
use Rattle.std.proofs.Common.{◌≡◌, ℕ, zero, suc, ◌+◌, ◌<◌, ◌≤◌, ◌^◌, ◌∙◌, inl, inr, List, [], ◌∷◌, length, refl, ap, arith, rules, true, decimal}
use Rattle.std.specs.Prelude.{Some, Ok}
use Rattle.std.specs.Char.{is_ascii_digit}
use Rattle.std.specs.Int.{w16, to_be_bytes}
use Rattle.std.specs.List.{list_all}
use Rattle.std.specs.Str.Parse.{digits_value}
use Rattle.std.proofs.Math.Nat.{mul-le-mul_right, mul-lt-mul_of_pos_right}
use Rattle.std.proofs.lemmas.Bool.{and_parts, lt-ltb, ltb-true, le-leb}
use Rattle.std.proofs.lemmas.Fmt.{decimal_is_IsNumeral, digits_decimal, digits_value-decimal, length-decimal-le}
use Rattle.std.proofs.lemmas.Nat.{pow_pos, div_below, from_be_bytes-to_be_bytes_2}
use Rattle.std.proofs.lemmas.Str.Parse.{IsNumeralModel, numerals_by_value}
use Rattle.std.proofs.lemmas.Str.{IsUtf8-from_ascii}
use Rattle.std.proofs.lemmas.Str.Ascii.{IsAscii-nil, IsAscii-cons}
use Rattle.std.specs.Str.{IsUtf8, IsAscii}
use Rattle.hex.specs.Hex.{IsBytes, lower_digits}
use Rattle.hex.proofs.HexLemmas.{decode_sized-encode_lower, IsAscii-encode_with}
use Rattle.json.proofs.Printed.Utf8.{are_ascii}
use Rattle.abt_rate.specs.Code.{HasExponent, code_of}
use Rattle.abt_rate.specs.Rate.{units_of, IsRate, IsNonzeroRate}
use Rattle.abt_rate.proofs.Rates.{units_of_code, code-of}
use Rattle.abt_cell.specs.Message.{Terms, Reply}
use Rattle.abt_entry.specs.Cells.{terms_of, request_in, answer_in}
use Rattle.abt_text.specs.FirstFault.{◌>>=◌}
use Rattle.abt_entry.specs.Reading.{Read}
use Rattle.abt_entry.specs.Values.{digits_of, whole_of, rate_as}
use Rattle.abt_entry.specs.Written.{number_json, rate_text, rate_json, request_json, answer_json}
use Rattle.abt_entry.specs.declared.member.Member.{Member}
use Rattle.abt_entry.specs.declared.member.Member.TheVariants as of
use Rattle.abt_journal_text.specs.Fits.{IsTerms}

own : IsNumeralModel (λ ds. list_all is_ascii_digit ds ≡ true) (digits_value 10)
own = numerals_by_value _ (search rules)

digits_back : (n : ℕ) → n < 2 ^ 64 → digits_of (decimal n) ≡ Some n
digits_back n h =
    let some : 1 ≤ length (decimal n) = omega (arith, (decimal_is_IsNumeral n h).0.0) in
    let few : length (decimal n) ≤ 20 = length-decimal-le 20 n (omega arith) (omega (arith, h)) h in
    rw (le-leb 1 (length (decimal n)) some, le-leb (length (decimal n)) 20 few, digits_decimal own n h, digits_value-decimal own n h) refl

pub whole_back : (limit n : ℕ) (name : Member) → n < limit → limit ≤ 2 ^ 64 → whole_of limit name (number_json n) ≡ Ok n
whole_back limit n name low within = rw (digits_back n (omega (arith, low, within)), lt-ltb n limit low) refl

-- first this, and then what is read with it
pub then_read : {A B : Type 0} (first : Read A) (x : A) (f : A → Read B) (all : Read B) → first ≡ Ok x → f x ≡ all → (first >>= f) ≡ all
then_read first x f all is more = ap (λ r. r >>= f) is ∙ more

exponent : (u : ℕ) (rate : IsNonzeroRate u) → HasExponent u rate.exponent
exponent u rate =
    let power = pow_pos rate.exponent in
    let is = rate.units_are in
    let fits = rate.mantissa_fits in
    let least : 512 ≤ 512 + rate.mantissa = omega arith in
    let less : 512 + rate.mantissa < 1024 = omega (arith, fits) in
    let low = mul-le-mul_right (2 ^ rate.exponent) least in
    let high = mul-lt-mul_of_pos_right less power in
    record { fits = rate.exponent_fits; low = omega (arith, low, is); high = omega (arith, high, is) }

code_back : (u : ℕ) → IsRate u → (units_of (code_of u) ≡ u) × (code_of u < 2 ^ 16)
code_back u (inl none) = (rw none refl, rw none (omega arith))
code_back u (inr rate) =
    let has = exponent u rate in
    let is = code-of u rate.exponent has (inr rate) in
    let fits = rate.exponent_fits in
    let quotient = div_below u (2 ^ rate.exponent) 1024 (pow_pos rate.exponent) has.high in
    (ap units_of is ∙ units_of_code u rate.exponent has (inr rate), omega (arith, is, fits, quotient))

two_octets : (n : ℕ) → IsBytes (to_be_bytes w16 n)
two_octets n zero = omega arith
two_octets n (suc zero) = omega arith
two_octets n (suc (suc i)) = omega arith

pub rate_back : (u : ℕ) (name : Member) → IsRate u → rate_as name (rate_json u) ≡ Ok u
rate_back u name rate =
    let back = code_back u rate in
    rw (decode_sized-encode_lower (to_be_bytes w16 (code_of u)) 2 refl (two_octets (code_of u)), from_be_bytes-to_be_bytes_2 (code_of u) back.1, back.0) refl

terms_good : (q : Terms) → IsTerms q → terms_of q.vc q.seq q.floor q.ask ≡ Ok q
terms_good q is = rw (lt-ltb 0 q.seq is.positive, le-leb q.floor q.ask is.order) refl

pub request_back : (q : Terms) (name : Member) → IsTerms q → request_in name (request_json q) ≡ Ok q
request_back q name is =
    then_read _ q.vc _ _ (then_read _ q.vc.vpi _ _ (whole_back (2 ^ 12) q.vc.vpi of.Vpi is.vc.0 (omega arith))
    (then_read _ q.vc.vci _ _ (whole_back (2 ^ 16) q.vc.vci of.Vci is.vc.1 (omega arith)) refl))
    (then_read _ q.seq _ _ (whole_back (2 ^ 32) q.seq of.Seq is.seq (omega arith))
    (then_read _ q.floor _ _ (rate_back q.floor of.Floor is.floor)
    (then_read _ q.ask _ _ (rate_back q.ask of.Ask is.ask) (terms_good q is))))

pub answer_back : (a : Reply) (name : Member) → IsTerms a.terms → answer_in name (answer_json a) ≡ Ok a
answer_back a name is =
    let q = a.terms in
    then_read _ q _ _
    (then_read _ q.vc _ _ (then_read _ q.vc.vpi _ _ (whole_back (2 ^ 12) q.vc.vpi of.Vpi is.vc.0 (omega arith))
    (then_read _ q.vc.vci _ _ (whole_back (2 ^ 16) q.vc.vci of.Vci is.vc.1 (omega arith)) refl))
    (then_read _ q.seq _ _ (whole_back (2 ^ 32) q.seq of.Seq is.seq (omega arith))
    (then_read _ q.floor _ _ (rate_back q.floor of.Floor is.floor)
    (then_read _ q.ask _ _ (rate_back q.ask of.Ask is.ask) (terms_good q is))))) refl

ascii_from : (xs : List ℕ) → are_ascii xs ≡ true → IsAscii xs
ascii_from [] e = IsAscii-nil
ascii_from (x ∷ xs) e = let p = and_parts _ _ e in IsAscii-cons x xs (ltb-true _ _ p.0) (ascii_from xs p.1)

pub rate_utf8 : (u : ℕ) → IsUtf8 (rate_text u)
rate_utf8 u =
    IsUtf8-from_ascii (rate_text u) (IsAscii-encode_with lower_digits (to_be_bytes w16 (code_of u)) (ascii_from lower_digits refl))
