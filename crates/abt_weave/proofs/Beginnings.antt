-- Lists that are beginnings of others.
use Rattle.std.proofs.Common.{◌≡◌, ℕ, zero, suc, refl, ap, List, [], ◌∷◌, ◌++◌, length, ◌∙◌, sym, subst, Option, None, Some}
use Rattle.std.specs.Prelude.{slice_get}
use Rattle.std.proofs.lemmas.List.{append_assoc, append-nil}
use Rattle.abt_weave.specs.Stuck.{IsBeginning}

-- behind a list its continuation begins
pub seam : {A : Type 0} → (xs ys : List A) → slice_get (xs ++ ys) (length xs) ≡ slice_get ys 0
seam [] ys = refl
seam (x ∷ xs) ys = seam xs ys

begun : {A : Type 0} → (xs rest : List A) (z : A) → slice_get rest 0 ≡ Some z → IsBeginning (xs ++ z ∷ []) (xs ++ rest)
begun xs [] z next = absurd (cc)
begun xs (y ∷ rest) z next =
    let is : y ≡ z = cc in
    (rest, ap (λ w. xs ++ (w ∷ rest)) is ∙ sym (append_assoc xs (z ∷ []) rest))

-- a beginning with the next element is one
pub beginning_more : {A : Type 0} → (xs ys : List A) (z : A) → IsBeginning xs ys → slice_get ys (length xs) ≡ Some z → IsBeginning (xs ++ z ∷ []) ys
beginning_more xs ys z begins next =
    subst (IsBeginning (xs ++ z ∷ [])) (sym begins.1)
    (begun xs begins.0 z (sym (seam xs begins.0) ∙ ap (λ l. slice_get l (length xs)) (sym begins.1) ∙ next))

pub beginning_nil : {A : Type 0} → (xs ys : List A) → IsBeginning xs ys → IsBeginning (xs ++ []) ys
beginning_nil xs ys begins = subst (λ l. IsBeginning l ys) (sym (append-nil xs)) begins
