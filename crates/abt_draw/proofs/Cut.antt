-- The last place at which a text may be cut.
use Rattle.std.proofs.Common.{◌≡◌, ◌∙◌, ◌⊎◌, inl, inr, ap, sym, subst, refl, arith, ℕ, zero, suc, ◌<◌, ◌≤◌, List, length, true, false}
use mathlib.Core.Logic.{⊎_elim}
use mathlib.Core.Bool.{cond}
use borrow.Author.Tests.{lt-ltb, le-ltb, le-leb, lt-leb}
use Rattle.std.specs.Fmt.{is_char_start}
use Rattle.std.specs.Fmt.Cut.{floor_char_boundary}
use Rattle.std.specs.Str.{IsCharBoundary}

-- what `floor_char_boundary` ensures of its result `kept`
abbrev pub IsLastBoundary : List ℕ → ℕ → ℕ → Type 0
IsLastBoundary bs i kept = (kept ≤ i) × IsCharBoundary bs kept × ((j : ℕ) → kept < j → j ≤ i → ¬ (IsCharBoundary bs j))

order : (a b : ℕ) → (a < b) ⊎ (b ≤ a)
order a b = grind arith

starts : (b : ℕ) → (128 ≤ b → 192 ≤ b) → is_char_start b ≡ true
starts b h = ⊎_elim (λ low. rw (lt-ltb b 128 low) refl) (λ high. rw (le-ltb b 128 high, le-leb 192 b (h high)) refl) (order b 128)

continues : (b : ℕ) → ¬ (128 ≤ b → 192 ≤ b) → is_char_start b ≡ false
continues b h = ⊎_elim (λ low. absurd (h (λ high. omega arith)))
    (λ high. ⊎_elim (λ mid. rw (le-ltb b 128 high, lt-leb 192 b mid) refl) (λ top. absurd (h (λ _. top))) (order b 192)) (order b 128)

-- the method's clauses fix its result
pub floor_char_boundary_is : (bs : List ℕ) (i kept : ℕ) → i < length bs → IsLastBoundary bs i kept → floor_char_boundary bs i ≡ kept
unfolding floor_char_boundary
floor_char_boundary_is bs zero kept within last = omega arith
floor_char_boundary_is bs (suc i) kept within last = ⊎_elim
    (λ below. ap (λ t. cond t (suc i) (floor_char_boundary bs i)) (continues _ (λ h. last.2 (suc i) below (omega arith) (omega arith, λ _. h)))
    ∙ floor_char_boundary_is bs i kept (omega arith) (omega arith, last.1, λ j p q. last.2 j p (omega arith)))
    (λ above. let same : kept ≡ suc i = omega arith in
    ap (λ t. cond t (suc i) (floor_char_boundary bs i)) (starts _ ((subst (IsCharBoundary bs) same last.1).1 within)) ∙ sym same)
    (order kept (suc i))
