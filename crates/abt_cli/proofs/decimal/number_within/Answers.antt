use Rattle.std.proofs.Common.{◌≡◌, ◌<◌, ◌≤◌, ◌+◌, ◌*◌, ◌-◌, ℕ, List, refl, sym, arith, length, take, get_or}
use Rattle.std.proofs.lemmas.Int.Digits.{digits_value_more}
use Rattle.std.proofs.lemmas.Str.Parse.{digits_value-take-le}
use Rattle.std.proofs.lemmas.List.Folds.{list_all_more}
use Rattle.std.proofs.lemmas.Bool.{lt-ltb, le-ltb}
use Rattle.std.specs.Prelude.{Some}
use Rattle.abt_cli.specs.Decimal.{decimal_in}
use Rattle.std.specs.Char.{is_ascii_digit, digit_value}
use Rattle.std.specs.Str.Parse.{digits_value}
use Rattle.abt_cli.proofs.decimal.number_within.Goals as goal

-- what a digit stands for
digit_is : (octet : ℕ) → 48 ≤ octet → octet ≤ 57 → digit_value octet ≡ octet - 48
digit_is octet low high = rw (le-ltb octet 48 low, lt-ltb octet 58 (omega arith)) refl

-- the value with one digit more
with_digit : (text : List ℕ) (i value digit : ℕ) → i < length text → value ≡ digits_value 10 (take i text)
    → (48 ≤ get_or text i 0) × (get_or text i 0 ≤ 57) → digit ≡ get_or text i 0 - 48 → value * 10 + digit ≡ digits_value 10 (take (i + 1) text)
with_digit text i value digit low is range digit_as =
    rw (digits_value_more 10 text i low, digit_is (get_or text i 0) range.0 range.1, ← is, ← digit_as) refl

-- the number that a text says is the value of its digits
value_of : (text : List ℕ) (number : ℕ) → decimal_in text ≡ Some number → digits_value 10 text ≡ number
value_of text number says = grind (arith, says)

-- No number within the limit is said if the first digits say more alone.
past : (limit : ℕ) (text : List ℕ) (i number : ℕ) → limit < digits_value 10 (take i text) → decimal_in text ≡ Some number → limit < number
past limit text i number high says =
    let whole = digits_value-take-le 10 text i (omega arith) in
    let value = value_of text number says in
    omega (arith, high, whole, value)

pub returns-in_err-checked_mul-clause-none : goal.returns-in_err-checked_mul-clause-none
returns-in_err-checked_mul-clause-none c = λ _ number says.
    let known = c.if-not-is_ascii_digit.ensures in
    let value = with_digit c.args.octets.now c.loop-octet.octet-index c.loop-octet.value c.from-digit.result c.loop-octet-test.true
    c.loop-octet.invariant.0 (known.cases.0, known.cases.1) c.from-digit.ensures in
    let over = c.in_err-checked_mul.ensures in
    let fits = c.ranges.limit.fits in
    past c.args.limit c.args.octets.now (c.loop-octet.octet-index + 1) number (omega (arith, value, over, fits)) says

pub returns-in_err-value-clause-none : goal.returns-in_err-value-clause-none
returns-in_err-value-clause-none c = λ _ number says.
    let known = c.if-not-is_ascii_digit.ensures in
    let value = with_digit c.args.octets.now c.loop-octet.octet-index c.loop-octet.value c.from-digit.result c.loop-octet-test.true
    c.loop-octet.invariant.0 (known.cases.0, known.cases.1) c.from-digit.ensures in
    let product = c.in_ok-checked_mul.ensures in
    let over = c.in_err-value.ensures in
    let fits = c.ranges.limit.fits in
    past c.args.limit c.args.octets.now (c.loop-octet.octet-index + 1) number (omega (arith, value, product.1, over, fits)) says

pub loop-octet-preserved : goal.loop-octet-preserved
loop-octet-preserved c =
    let known = c.if-not-is_ascii_digit.ensures in
    let value = with_digit c.args.octets.now c.loop-octet.octet-index c.loop-octet.value c.from-digit.result c.loop-octet-test.true
    c.loop-octet.invariant.0 (known.cases.0, known.cases.1) c.from-digit.ensures in
    let product = c.in_ok-checked_mul.ensures in
    let sum = c.in_ok-value.ensures in (
      omega (arith, value, product.1, sum.1),
      rw (list_all_more is_ascii_digit c.args.octets.now c.loop-octet.octet-index 0 c.loop-octet-test.true, c.loop-octet.invariant.1, sym known.value) refl,
    )
