-- Places on paths.
use Rattle.std.proofs.Common.{◌≡◌, ◌≢◌, ℕ, zero, suc, ◌+◌, ◌-◌, ◌<◌, List, [], ◌∷◌, length, inl, inr, refl, ap, sym, ◌∙◌, arith}
use Rattle.std.specs.Prelude.{◌==◌, slice_index, slice_get, if◌then◌else◌, AllPairs, Some}
use Rattle.std.proofs.lemmas.Bool.{eq-eqb, ne_eqb, cases_eq, cond-true, cond-false}
use Rattle.abt_net.specs.Paths.{hop_of}
use Rattle.abt_net.specs.Search.{IsLeastPlace}

-- a port stands at its hop
pub hop_of-port : (path : List ℕ) (p : ℕ) → hop_of path p ≢ 0 → slice_index path (hop_of path p - 1) ≡ p
hop_of-port [] p some = absurd (some refl)
hop_of-port (q ∷ path) p some = elim (cases_eq q p) [
  | inl same ↦ (
      let one : hop_of (q ∷ path) p ≡ 1 = cond-true _ _ _ (eq-eqb q p same) in
      let at : hop_of (q ∷ path) p - 1 ≡ 0 = omega arith in
      ap (slice_index (q ∷ path)) at ∙ same)
  | inr differ ↦ (
      let rest : hop_of (q ∷ path) p ≡ (if hop_of path p == 0 then 0 else hop_of path p + 1) = cond-false _ _ _ (ne_eqb q p differ) in
      elim (cases_eq (hop_of path p) 0) [
        | inl z ↦ absurd (some (rest ∙ cond-true _ _ _ (eq-eqb _ _ z)))
        | inr more ↦ (
            let e : hop_of (q ∷ path) p ≡ hop_of path p + 1 = rest ∙ cond-false _ _ _ (ne_eqb _ _ more) in
            let at : hop_of (q ∷ path) p - 1 ≡ suc (hop_of path p - 1) = omega arith in
            ap (slice_index (q ∷ path)) at ∙ hop_of-port path p more)
      ])
]

-- the hop of a port that a path visits once
pub hop_at : (path : List ℕ) (j : ℕ) → AllPairs (λ p q. p ≢ q) path → j < length path → hop_of path (slice_index path j) ≡ j + 1
hop_at [] j once low = absurd (omega arith)
hop_at (q ∷ path) zero once low = cond-true _ _ _ (eq-eqb q q refl)
hop_at (q ∷ path) (suc j) once low =
    let others : AllPairs (λ p q. p ≢ q) path = λ i k d less within. once (suc i) (suc k) d (omega arith) (omega arith) in
    let rest = hop_at path j others (omega arith) in
    let apart : q ≢ slice_index path j = once 0 (suc j) 0 (omega arith) (omega arith) in
    let some : hop_of path (slice_index path j) ≢ 0 = λ none. omega arith in
    let more : suc j + 1 ≡ (j + 1) + 1 = omega arith in
    cond-false _ _ _ (ne_eqb _ _ apart) ∙ cond-false _ _ _ (ne_eqb _ _ some) ∙ ap (λ h. h + 1) rest ∙ sym more

-- the hop by the first place at which the port stands
pub hop_of-least : (path : List ℕ) (p i : ℕ) → IsLeastPlace (λ k. slice_get path k ≡ Some p) i → hop_of path p ≡ i + 1
hop_of-least [] p i (at, least) = absurd (cc)
hop_of-least (q ∷ path) p zero (at, least) =
    let same : q ≡ p = cc in
    cond-true _ _ _ (eq-eqb q p same)
hop_of-least (q ∷ path) p (suc i) (at, least) =
    let rest = hop_of-least path p i (at, λ k low. least (suc k) (omega arith)) in
    let apart : q ≢ p = λ same. least 0 (omega arith) (ap Some same) in
    let some : hop_of path p ≢ 0 = λ none. omega arith in
    let more : suc i + 1 ≡ (i + 1) + 1 = omega arith in
    cond-false _ _ _ (ne_eqb _ _ apart) ∙ cond-false _ _ _ (ne_eqb _ _ some) ∙ ap (λ h. h + 1) rest ∙ sym more

pub hop_of-nowhere : (path : List ℕ) (p : ℕ) → ((k : ℕ) → ¬ (slice_get path k ≡ Some p)) → hop_of path p ≡ 0
hop_of-nowhere [] p never = refl
hop_of-nowhere (q ∷ path) p never =
    cond-false _ _ _ (ne_eqb q p (λ same. never 0 (ap Some same)))
    ∙ cond-true _ _ _ (eq-eqb _ _ (hop_of-nowhere path p (λ k. never (suc k))))
