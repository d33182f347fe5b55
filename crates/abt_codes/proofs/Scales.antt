-- Numbers with decimal places, and the room that they need.
use Rattle.std.proofs.Common.{◌≡◌, ℕ, ◌+◌, ◌-◌, ◌*◌, ◌^◌, ◌<◌, ◌≤◌, arith, sym, ap, ◌∙◌, mul-lt-mul_of_pos_right, mul-le-mul_right, pow-add}
use Rattle.std.proofs.Math.Nat.{mul_assoc}
use native.Mathlib.Nat.{pow-le-pow_right}

tens_more : (n m : ℕ) → n ≤ m → 10 ^ n ≤ 10 ^ m
tens_more n m few = pow-le-pow_right (omega arith) few

tens_some : (n : ℕ) → 0 < 10 ^ n
tens_some n = let one : 10 ^ 0 ≤ 10 ^ n = tens_more 0 n (omega arith) in omega (one, arith)

-- a whole number before so many places, and the number in these
pub has_room : (whole fraction tens : ℕ) → whole < 18446744073709551616 → fraction < 18446744073709551616 → 0 < tens
    → whole * tens + fraction < 36893488147419103232 * tens
has_room whole fraction tens small less positive =
    let most : whole ≤ 18446744073709551615 = omega (small, arith) in
    let times = mul-le-mul_right tens most in
    omega (times, less, positive, arith)

-- so is the number of 10^-9 of it
pub in_whole : (number places : ℕ) → places ≤ 9 → number < 36893488147419103232 * 10 ^ places
    → number * 10 ^ (9 - places) < 36893488147419103232 * 10 ^ 9
in_whole number places few small =
    let nine : places + (9 - places) ≡ 9 = omega (few, arith) in
    let tens : 10 ^ places * 10 ^ (9 - places) ≡ 10 ^ 9 = sym (pow-add 10 places (9 - places)) ∙ ap (λ n. 10 ^ n) nine in
    let times = mul-lt-mul_of_pos_right small (tens_some (9 - places)) in
    let same = mul_assoc 36893488147419103232 (10 ^ places) (10 ^ (9 - places)) ∙ ap (λ n. 36893488147419103232 * n) tens in
    omega (times, same, arith)

pub at_most : (number places : ℕ) → places ≤ 9 → number < 36893488147419103232 * 10 ^ places → number < 36893488147419103232 * 10 ^ 9
at_most number places few small =
    let tens : 10 ^ places ≤ 10 ^ 9 = tens_more places 9 few in
    omega (small, tens, arith)
