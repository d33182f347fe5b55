-- Lists that grow beside a numbered one.
use Rattle.std.proofs.Common.{◌≡◌, ℕ, zero, suc, ◌+◌, ◌<◌, ◌≤◌, List, [], ◌∷◌, ◌++◌, refl, sym, ap, ◌∙◌, arith, length, map, take, get_or}
use Rattle.std.proofs.lemmas.List.{take_all}
use Rattle.std.proofs.lemmas.Option.{get_or_from_slice_get}
use Rattle.std.specs.Prelude.{Some, slice_get}
use Rattle.std.specs.List.{enumerate_from}

-- one item more
pub next_from : {A B : Type 0} (f : ℕ × A → B) (k : ℕ) (xs : List A) (i : ℕ) (y : B) → i < length xs
    → ((x : A) → slice_get xs i ≡ Some x → y ≡ f (k + i, x))
    → map f (enumerate_from k (take (suc i) xs)) ≡ map f (enumerate_from k (take i xs)) ++ y ∷ []
next_from f k [] i y low is = absurd (omega (arith, low))
next_from {B = B} f k (x ∷ xs) zero y low is =
    let here : k + 0 ≡ k = omega arith in
    ap (λ (z : B). z ∷ []) (sym (is x refl ∙ ap (λ n. f (n, x)) here))
next_from {A = A} {B = B} f k (x ∷ xs) (suc i) y low is =
    let more : k + suc i ≡ k + 1 + i = omega arith in
    ap (λ (l : List B). f (k, x) ∷ l) (next_from f (k + 1) xs i y (omega (arith, low)) (λ z at. is z at ∙ ap (λ n. f (n, z)) more))

pub next_numbered : {A B : Type 0} (f : ℕ × A → B) (xs : List A) (i : ℕ) (y : B) → i < length xs
    → ((x : A) → slice_get xs i ≡ Some x → y ≡ f (i, x))
    → map f (enumerate_from 0 (take (i + 1) xs)) ≡ map f (enumerate_from 0 (take i xs)) ++ y ∷ []
next_numbered f xs i y low is =
    let here : i ≡ 0 + i = omega arith in
    let one : i + 1 ≡ suc i = omega arith in
    ap (λ n. map f (enumerate_from 0 (take n xs))) one ∙ next_from f 0 xs i y low (λ x at. is x at ∙ ap (λ n. f (n, x)) here)

-- all of them
pub all_from : {A B : Type 0} (f : ℕ × A → B) (k : ℕ) (xs : List A) (i : ℕ) → length xs ≤ i → map f (enumerate_from k (take i xs)) ≡ map f (enumerate_from k xs)
all_from {A = A} f k xs i over = ap (λ (l : List A). map f (enumerate_from k l)) (take_all i xs over)

-- an item that is indexed is the one that is there
pub item_is : {A : Type 0} (xs ys : List A) (i : ℕ) (x y : A) → ys ≡ xs → y ≡ get_or ys i y → slice_get xs i ≡ Some x → y ≡ x
item_is {A = A} xs ys i x y same is at = is ∙ ap (λ (l : List A). get_or l i y) same ∙ get_or_from_slice_get xs i x y at
