-- Lists by their places, of which one is changed.
use Rattle.std.proofs.Common.{◌≡◌, ◌≢◌, ℕ, suc, zero, ◌<◌, List, [], ◌∷◌, ◌++◌, length, map, get_or, slice_set, slice_index_or, Option, None, Some, option_to_list, IfSome, IfNone, refl, ap, sym, subst, ◌∙◌, arith}

at_place : {X A : Type 0} (f : X → List A) (xs : List X) (i : ℕ) (y : X) → i < length xs → slice_index_or (map f (slice_set xs i y)) i [] ≡ f y
at_place f [] i y l = absurd (omega (arith, l))
at_place f (x ∷ xs) zero y l = refl
at_place f (x ∷ xs) (suc i) y l = at_place f xs i y (omega (arith, l))

-- one of the lists is what it was set to
pub set_here : {X A : Type 0} (f : X → List A) (xs : List X) (i c : ℕ) (y : X) → i ≡ c → i < length xs
    → slice_index_or (map f (slice_set xs i y)) c [] ≡ f y
set_here f xs i c y same l = subst (λ k. slice_index_or (map f (slice_set xs i y)) k [] ≡ f y) same (at_place f xs i y l)

-- the others stay
pub set_others : {X A : Type 0} (f : X → List A) (xs : List X) (i : ℕ) (y : X) (c : ℕ) → c ≢ i
    → slice_index_or (map f (slice_set xs i y)) c [] ≡ slice_index_or (map f xs) c []
set_others f [] i y c other = refl
set_others f (x ∷ xs) zero y zero other = absurd (other refl)
set_others f (x ∷ xs) zero y (suc c) other = refl
set_others f (x ∷ xs) (suc i) y zero other = refl
set_others f (x ∷ xs) (suc i) y (suc c) other = set_others f xs i y c (λ e. other (ap suc e))

stands : {X A : Type 0} (f : X → List A) (xs : List X) (i : ℕ) (x : X) → i < length xs → x ≡ get_or xs i x → slice_index_or (map f xs) i [] ≡ f x
stands f [] i x l is = absurd (omega (arith, l))
stands f (w ∷ xs) zero x l is = ap f (sym is)
stands f (w ∷ xs) (suc i) x l is = stands f xs i x (omega (arith, l)) is

-- the list of a place that is there
pub here : {X A : Type 0} (f : X → List A) (xs : List X) (i c : ℕ) (x : X) → i ≡ c → i < length xs → x ≡ get_or xs i x
    → slice_index_or (map f xs) c [] ≡ f x
here f xs i c x same l is = subst (λ k. slice_index_or (map f xs) k [] ≡ f x) same (stands f xs i x l is)

-- a list whose first has left
pub some_left : {A : Type 0} (o : Option A) (old new was now : List A) → was ≡ old → now ≡ new → old ≡ option_to_list o ++ new
    → IfSome o (λ x. was ≡ x ∷ now)
some_left None old new was now a b e = tt
some_left (Some x) old new was now a b e = a ∙ e ∙ ap (λ (l : List _). x ∷ l) (sym b)

-- a list that has no first
pub none_left : {A : Type 0} (o : Option A) (n : ℕ) (old new was now : List A) → was ≡ old → now ≡ new → old ≡ option_to_list o ++ new
    → ((d : A) → 0 < n → o ≡ Some (slice_index_or old 0 d)) → n ≡ length old → IfNone o ((was ≡ []) × (now ≡ []))
none_left (Some x) n old new was now a b e v l = tt
none_left None n [] new was now a b e v l = (a, b ∙ sym e)
none_left None n (y ∷ ys) new was now a b e v l =
    let first : None ≡ Some y = v y (omega (arith, l)) in absurd (cc (first))
