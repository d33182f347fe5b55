-- Lists that begin others.
use Rattle.std.proofs.Common.{◌≡◌, ℕ, zero, suc, ◌+◌, ◌<◌, ◌≤◌, refl, ap, Bool, true, false, List, [], ◌∷◌, ◌++◌, length, ◌∙◌, sym, subst, Option, None, Some, arith}
use Rattle.std.specs.Prelude.{◌||◌, slice_get}
use Rattle.std.specs.List.{list_any}
use Rattle.std.proofs.lemmas.Bool.{or_left}
use Rattle.std.proofs.lemmas.List.{append_assoc, append-nil, length-append}
use Rattle.std.proofs.lemmas.List.Folds.{list_any-append}
use Rattle.abt_weave.specs.Stuck.{IsBeginning}

pub begins_itself : {A : Type 0} → (xs : List A) → IsBeginning xs xs
begins_itself xs = ([], sym (append-nil xs))

pub begins_more : {A : Type 0} → (xs ys : List A) → IsBeginning xs (xs ++ ys)
begins_more xs ys = (ys, refl)

-- an element of the beginning stands at the same place of the whole
pub get_whole : {A : Type 0} → (xs ys : List A) (i : ℕ) (z : A) → IsBeginning xs ys → slice_get xs i ≡ Some z → slice_get ys i ≡ Some z
get_whole [] ys i z begins at = absurd (cc)
get_whole (x ∷ xs) ys zero z begins at = ap (λ l. slice_get l 0) begins.1 ∙ at
get_whole (x ∷ xs) ys (suc i) z begins at = ap (λ l. slice_get l (suc i)) begins.1 ∙ get_whole xs (xs ++ begins.0) i z (begins.0, refl) at

-- and the other way round, as far as the beginning goes
pub get_beginning : {A : Type 0} → (xs ys : List A) (i : ℕ) (z : A) → IsBeginning xs ys → i < length xs → slice_get ys i ≡ Some z → slice_get xs i ≡ Some z
get_beginning [] ys i z begins low at = absurd (omega (arith, low))
get_beginning (x ∷ xs) ys zero z begins low at = sym (ap (λ l. slice_get l 0) begins.1) ∙ at
get_beginning (x ∷ xs) ys (suc i) z begins low at = get_beginning xs (xs ++ begins.0) i z (begins.0, refl) (omega (arith, low)) (sym (ap (λ l. slice_get l (suc i)) begins.1) ∙ at)

-- a beginning with the element behind it begins a longer beginning of the same list
pub begins_next : {A : Type 0} → (xs ys : List A) (z : A) → IsBeginning xs ys → slice_get ys (length xs) ≡ Some z → IsBeginning (xs ++ z ∷ []) ys
begins_next [] [] z begins at = absurd (cc)
begins_next {A = A} [] (y ∷ ys) z begins at = (let is : y ≡ z = cc in (ys, ap (λ (w : A). w ∷ ys) is))
begins_next {A = A} (x ∷ xs) ys z begins at =
    let rest = begins_next xs (xs ++ begins.0) z (begins.0, refl) (sym (ap (λ l. slice_get l (suc (length xs))) begins.1) ∙ at) in
    (rest.0, begins.1 ∙ ap (λ (l : List A). x ∷ l) rest.1)

pub get_last : {A : Type 0} → (xs : List A) (z : A) → slice_get (xs ++ z ∷ []) (length xs) ≡ Some z
get_last [] z = refl
get_last (x ∷ xs) z = get_last xs z

-- what stands in a list with one more
pub get_more : {A : Type 0} → (xs : List A) (z : A) (i : ℕ) (w : A) → slice_get (xs ++ z ∷ []) i ≡ Some w → (P : Type 0) → (slice_get xs i ≡ Some w → P) → (i ≡ length xs → z ≡ w → P) → P
get_more [] z zero w at P old new = new refl (cc)
get_more [] z (suc i) w at P old new = absurd (cc)
get_more (x ∷ xs) z zero w at P old new = old at
get_more (x ∷ xs) z (suc i) w at P old new = get_more xs z i w at P old (λ e. new (ap suc e))

pub any_whole : {A : Type 0} → (test : A → Bool) (xs ys : List A) → list_any test xs ≡ true → list_any test (xs ++ ys) ≡ true
any_whole test xs ys h = list_any-append test xs ys ∙ ap (λ b. b || list_any test ys) h

or_other : (a b : Bool) → b ≡ true → (a || b) ≡ true
or_other true b h = refl
or_other false b h = h

pub any_rest : {A : Type 0} → (test : A → Bool) (xs ys : List A) → list_any test ys ≡ true → list_any test (xs ++ ys) ≡ true
any_rest test xs ys h = list_any-append test xs ys ∙ or_other (list_any test xs) (list_any test ys) h
