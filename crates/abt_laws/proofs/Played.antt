-- The events of a round trip, one by one.
use Rattle.std.proofs.Common.{◌≡◌, ℕ, zero, suc, ◌+◌, ◌-◌, ◌≤◌, ◌<◌, refl, ap, true, List, [], ◌∷◌, ◌++◌, ◌∙◌, sym, subst, arith, append_assoc}
use Rattle.std.specs.Prelude.{Result, Ok, Err, IfOk, OnErr, MatchResult}
use Rattle.abt_model.specs.declared.event.Event.{Event}
use Rattle.abt_model.specs.declared.event.Event.TheVariants.{Request, Answer}
use Rattle.abt_laws.specs.RoundTrips.{out_over, back_over}

-- what holds in any case holds if there is an error
pub err_holds : {T E : Type 0} (r : Result T E) (X : Type 0) → X → OnErr r X
err_holds (Ok v) X x = tt
err_holds (Err e) X x = x

-- what follows from what is said of both cases
pub if_ok_of : {T E : Type 0} (r : Result T E) (P R : T → Type 0) (Q : Type 0) → MatchResult r P (λ _. Q) → ((x : T) → P x → R x) → IfOk r R
if_ok_of (Ok v) P R Q said to = to v said
if_ok_of (Err e) P R Q said to = tt

pub on_err_of : {T E : Type 0} (r : Result T E) (P : T → Type 0) (Q X : Type 0) → MatchResult r P (λ _. Q) → (Q → X) → OnErr r X
on_err_of (Ok v) P Q X said to = tt
on_err_of (Err e) P Q X said to = to said

pub append_none : (xs : List Event) → xs ++ [] ≡ xs
append_none [] = refl
append_none (x ∷ xs) = ap (λ (l : List Event). x ∷ l) (append_none xs)

-- one hop more, out
pub out_more : (c s n : ℕ) → out_over c s (n + 1) ≡ out_over c s n ++ Request c (n + 1) s ∷ []
out_more c s n =
    let more : suc n ≡ n + 1 = omega arith in
    subst (λ (h : ℕ). out_over c s h ≡ out_over c s n ++ Request c h s ∷ []) more refl

-- what is left of it after the first n hops
out_left : (c s n m : ℕ) → (left : List Event) × (out_over c s n ++ left ≡ out_over c s (n + m))
out_left c s n zero = ([], append_none (out_over c s n) ∙ ap (out_over c s) (plus_none n))
  where
    plus_none : (k : ℕ) → k ≡ k + 0
    plus_none k = omega arith
out_left c s n (suc m) =
    let old = out_left c s n m in
    let same : (n + m) + 1 ≡ n + suc m = omega arith in (
      old.0 ++ Request c ((n + m) + 1) s ∷ [],
      sym (append_assoc (out_over c s n) old.0 (Request c ((n + m) + 1) s ∷ []))
          ∙ ap (λ (l : List Event). l ++ Request c ((n + m) + 1) s ∷ []) old.1
          ∙ sym (out_more c s (n + m))
          ∙ ap (out_over c s) same,
    )

pub out_begun : (c s n k : ℕ) → n ≤ k → (left : List Event) × (out_over c s n ++ left ≡ out_over c s k)
out_begun c s n k low =
    let is : n + (k - n) ≡ k = omega arith in
    let left = out_left c s n (k - n) in
    (left.0, left.1 ∙ ap (out_over c s) is)

-- one hop less, back
pub back_less : (c s n : ℕ) → 0 < n → back_over c s n ≡ Answer c n s true ∷ back_over c s (n - 1)
back_less c s zero some = absurd (omega arith)
back_less c s (suc n) some =
    let less : n ≡ suc n - 1 = omega arith in
    ap (λ (h : ℕ). Answer c (suc n) s true ∷ back_over c s h) less
