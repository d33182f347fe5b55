-- The spacing of a rate from that of its mantissa.
use Rattle.std.proofs.Common.{◌≡◌, ℕ, zero, suc, ◌+◌, ◌*◌, ◌^◌, ◌<◌, ◌≤◌, ◌&&◌, Bool, true, eqb, List, [], ◌∷◌, length, get_or, arith, ap, sym, subst, ◌∙◌, refl}
use Rattle.std.proofs.Common.{lt_of_mul-lt-mul_right, mul-le-mul_right, mul_assoc, mul_comm, add-mul, mul-pos, le_trans, inr}
use Rattle.abt_rate.specs.Rate.{IsRate}
use Rattle.abt_rate.proofs.Rates.{spacing_least, spacing_range}
use Rattle.std.proofs.lemmas.Nat.{pow_pos}
use Rattle.std.proofs.lemmas.Bool.{and_parts, eqb-true}
use Rattle.std.proofs.lemmas.Grind.{div_ceil_times}
use Rattle.std.specs.Int.{div_ceil}
use Rattle.abt_c.specs.declared.spacing.TheConstants.{FIRST_SPACINGS}

-- ---- the table

-- each is the spacing of a mantissa, from one on
are_spacings : List ℕ → ℕ → Bool
are_spacings [] m = true
are_spacings (t ∷ more) m = eqb t (div_ceil (512 * 10 ^ 12) m) && are_spacings more (suc m)

spacing_at : (ts : List ℕ) (m i d : ℕ) → are_spacings ts m ≡ true → i < length ts → get_or ts i d ≡ div_ceil (512 * 10 ^ 12) (i + m)
unfolding are_spacings
spacing_at [] m i d all within = absurd (omega arith)
spacing_at (t ∷ more) m zero d all within =
    let parts = and_parts (eqb t (div_ceil (512 * 10 ^ 12) m)) (are_spacings more (suc m)) all in
    let here : m ≡ 0 + m = omega arith in
    eqb-true t (div_ceil (512 * 10 ^ 12) m) parts.0 ∙ ap (λ k. div_ceil (512 * 10 ^ 12) k) here
spacing_at (t ∷ more) m (suc i) d all within =
    let parts = and_parts (eqb t (div_ceil (512 * 10 ^ 12) m)) (are_spacings more (suc m)) all in
    let here : i + suc m ≡ suc i + m = omega arith in
    spacing_at more (suc m) i d parts.1 (omega arith) ∙ ap (λ k. div_ceil (512 * 10 ^ 12) k) here

table_holds : are_spacings FIRST_SPACINGS 512 ≡ true
unfolding are_spacings
table_holds = refl

-- ---- a quotient that is rounded up twice

only_ceil : (x w r s : ℕ) → x ≤ r * w → r * w < x + w → x ≤ s * w → s * w < x + w → r ≡ s
only_ceil x w r s r_low r_high s_low s_high =
    let r_next : r * w < (1 + s) * w = omega arith in
    let s_next : s * w < (1 + r) * w = omega arith in
    let r_most : r < 1 + s = lt_of_mul-lt-mul_right w r_next in
    let s_most : s < 1 + r = lt_of_mul-lt-mul_right w s_next in
    omega arith

ceil_twice : (x y z : ℕ) → 0 < y → 0 < z → 0 < y * z → div_ceil (div_ceil x y) z ≡ div_ceil x (y * z)
ceil_twice x y z y_positive z_positive positive =
    let once = div_ceil_times x y y_positive in
    let twice = div_ceil_times (div_ceil x y) z z_positive in
    let whole = div_ceil_times x (y * z) positive in
    let s = div_ceil (div_ceil x y) z in
    let swap : s * z * y ≡ s * (y * z) = mul_assoc s z y ∙ ap (λ k. s * k) (mul_comm z y) in
    let reaches : div_ceil x y * y ≤ s * z * y = mul-le-mul_right y twice.0 in
    let next : 1 + s * z ≤ div_ceil x y + z = let high = twice.1 in omega arith in
    let times : (1 + s * z) * y ≤ (div_ceil x y + z) * y = mul-le-mul_right y next in
    let spread : (div_ceil x y + z) * y ≡ div_ceil x y * y + y * z = add-mul (div_ceil x y) z y ∙ ap (λ k. div_ceil x y * y + k) (mul_comm z y) in
    let more : (1 + s * z) * y ≡ 1 * y + s * z * y = add-mul 1 (s * z) y in
    let low : x ≤ s * (y * z) = let first = once.0 in omega arith in
    let high : s * (y * z) < x + y * z = let last = once.1 in omega arith in
    only_ceil x (y * z) s (div_ceil x (y * z)) low high whole.0 whole.1

one : 1 ≤ 234
one = omega arith

shifted : (t m e : ℕ) → t ≡ div_ceil (512 * 10 ^ 12) (m + 512) → div_ceil t (2 ^ e) ≡ div_ceil (512 * 10 ^ 12) ((512 + m) * 2 ^ e)
shifted t m e is =
    let swap : m + 512 ≡ 512 + m = omega arith in
    let positive : 0 < 512 + m = omega arith in
    ap (λ k. div_ceil k (2 ^ e)) (is ∙ ap (λ k. div_ceil (512 * 10 ^ 12) k) swap)
    ∙ ceil_twice (512 * 10 ^ 12) (512 + m) (2 ^ e) positive (pow_pos e) (mul-pos positive (pow_pos e))

pub spacing_of_mantissa : (m e d : ℕ) → m < 512 → div_ceil (get_or FIRST_SPACINGS m d) (2 ^ e) ≡ div_ceil (512 * 10 ^ 12) ((512 + m) * 2 ^ e)
spacing_of_mantissa m e d within = shifted (get_or FIRST_SPACINGS m d) m e (spacing_at FIRST_SPACINGS 512 m d table_holds within)

pub spacing_in_range : (m e t : ℕ) → m < 512 → e < 32 → t ≡ div_ceil (512 * 10 ^ 12) ((512 + m) * 2 ^ e) → (1 ≤ t) × (t ≤ 10 ^ 12)
spacing_in_range m e t m_fits e_fits is =
    let rate : IsRate ((512 + m) * 2 ^ e) = inr (record { mantissa = m; exponent = e; mantissa_fits = m_fits; exponent_fits = e_fits; units_are = refl }) in
    let enough : 0 < 512 + m = omega arith in
    let positive : 0 < (512 + m) * 2 ^ e = mul-pos enough (pow_pos e) in
    let range = spacing_range ((512 + m) * 2 ^ e) (div_ceil (512 * 10 ^ 12) ((512 + m) * 2 ^ e)) rate positive (spacing_least ((512 + m) * 2 ^ e) positive) in
    subst (λ k. (1 ≤ k) × (k ≤ 10 ^ 12)) (sym is) (le_trans one range.0, range.1)
