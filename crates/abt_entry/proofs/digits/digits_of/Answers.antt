use Rattle.std.proofs.Common.{◌≡◌, ◌<◌, ◌≤◌, ◌+◌, ◌*◌, ◌-◌, ◌^◌, ℕ, List, rules, refl, sym, ap, ◌∙◌, true, false, arith, length, take, get_or}
use Rattle.std.proofs.lemmas.Str.Parse.{IsNumeralModel, numerals_by_value, digits_value_short}
use Rattle.std.proofs.lemmas.Int.Digits.{digits_value_more}
use Rattle.std.proofs.lemmas.List.{length-take-le, take_all}
use Rattle.std.proofs.lemmas.List.Folds.{list_all_more, list_all_at}
use Rattle.std.proofs.lemmas.Bool.{lt-ltb, le-ltb, le-leb}
use Rattle.std.proofs.Math.Bool.{and-false}
use Rattle.std.specs.Prelude.{Some, None}
use Rattle.abt_entry.specs.Values.{digits_of}
use Rattle.std.specs.Char.{is_ascii_digit, digit_value}
use Rattle.std.specs.List.{list_all}
use Rattle.std.specs.Str.Parse.{digits_value}
use Rattle.abt_entry.proofs.digits.digits_of.Goals as goal

own : IsNumeralModel (λ ds. list_all is_ascii_digit ds ≡ true) (digits_value 10)
own = numerals_by_value _ (search rules)

-- fewer than 20 digits, and one more
room : (text : List ℕ) (i value : ℕ) → i < length text → length text ≤ 20 → value ≡ digits_value 10 (take i text) → list_all is_ascii_digit (take i text) ≡ true → value < 10 ^ 19
room text i value low few is all =
    let long = length-take-le i text (omega (arith, low)) in
    let small : digits_value 10 (take i text) < 10 ^ 19 = digits_value_short own (take i text) 19 all (omega (arith, long, low, few)) in
    omega (arith, small, is)

pub overflow_mul-value : goal.overflow_mul-value
overflow_mul-value c =
    let small = room c.args.octets.now c.loop-octet.octet-index c.loop-octet.value (search rules) (search rules) c.loop-octet.invariant.0 c.loop-octet.invariant.1 in
    omega (arith, small)

-- what a digit stands for
digit_is : (octet : ℕ) → 48 ≤ octet → octet ≤ 57 → digit_value octet ≡ octet - 48
digit_is octet low high = rw (le-ltb octet 48 low, lt-ltb octet 58 (omega arith)) refl

-- one digit more
more : (text : List ℕ) (i value digit : ℕ) → i < length text → value ≡ digits_value 10 (take i text) → list_all is_ascii_digit (take i text) ≡ true
    → is_ascii_digit (get_or text i 0) ≡ true → (48 ≤ get_or text i 0) × (get_or text i 0 ≤ 57) → digit ≡ get_or text i 0 - 48
    → (value * 10 + digit ≡ digits_value 10 (take (i + 1) text)) × (list_all is_ascii_digit (take (i + 1) text) ≡ true)
more text i value digit low is all next range digit_as = (
  rw (digits_value_more 10 text i low, digit_is (get_or text i 0) range.0 range.1, ← is, ← digit_as) refl,
  rw (list_all_more is_ascii_digit text i 0 low, all, next) refl,
)

pub overflow_add-value : goal.overflow_add-value
overflow_add-value c =
    let small = room c.args.octets.now c.loop-octet.octet-index c.loop-octet.value (search rules) (search rules) c.loop-octet.invariant.0 c.loop-octet.invariant.1 in
    let range = c.if-not-is_ascii_digit.ensures.cases in
    let digit = c.from.ensures in
    omega (arith, small, range.0, range.1, digit)

pub loop-octet-preserved : goal.loop-octet-preserved
loop-octet-preserved c =
    let known = c.if-not-is_ascii_digit.ensures in
    more c.args.octets.now c.loop-octet.octet-index c.loop-octet.value c.from.result c.loop-octet-test.true c.loop-octet.invariant.0 c.loop-octet.invariant.1
    (sym known.value) (known.cases.0, known.cases.1) c.from.ensures

-- an octet that is no digit
no_digit : (text : List ℕ) (i : ℕ) → i < length text → is_ascii_digit (get_or text i 0) ≡ false → None ≡ digits_of text
no_digit text i low other = rw (list_all_at is_ascii_digit text i 0 low other, and-false) refl

pub returns-then-not-is_ascii_digit : goal.returns-then-not-is_ascii_digit
returns-then-not-is_ascii_digit c = no_digit c.args.octets.now c.loop-octet.octet-index c.loop-octet-test.true (sym c.if-not-is_ascii_digit.ensures.value)

-- 1 to 20 digits
whole : (text : List ℕ) (i value : ℕ) → length text ≤ i → 1 ≤ length text → length text ≤ 20 → value ≡ digits_value 10 (take i text) → list_all is_ascii_digit (take i text) ≡ true
    → Some value ≡ digits_of text
whole text i value past some few is all =
    let same = take_all i text past in
    let digits : list_all is_ascii_digit text ≡ true = ap (list_all is_ascii_digit) (sym same) ∙ all in
    rw (le-leb 1 (length text) some, le-leb (length text) 20 few, digits) (ap Some (is ∙ ap (digits_value 10) same))

pub returns : goal.returns
returns c = whole c.args.octets.now c.loop-octet.octet-index c.loop-octet.value c.loop-octet-test.false (search rules) c.if-octets-gt20.false c.loop-octet.invariant.0 c.loop-octet.invariant.1
