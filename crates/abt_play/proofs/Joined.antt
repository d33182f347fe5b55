-- Blocks of which one is changed.
use Rattle.std.proofs.Common.{◌≡◌, ℕ, suc, zero, ◌+◌, ◌-◌, ◌<◌, ◌≤◌, List, [], ◌∷◌, ◌++◌, length, get_or, take, drop, flat_map, slice_set, slice_get, Some, refl, ap, ◌∙◌, sym, subst, append_assoc, arith}
use Rattle.std.specs.List.{remove}
use Rattle.std.proofs.lemmas.List.{append-nil}
use Rattle.std.proofs.lemmas.List.Concat.{flat_map-append, get_or-flat_map}
use Rattle.std.proofs.lemmas.List.Edits.{remove-append_left, remove-append_right}
use Rattle.std.proofs.lemmas.List.Folds.{length-flat_map-take}
use Rattle.std.proofs.lemmas.Option.{slice_get_read}

pub split_at : {X A : Type 0} (f : X → List A) (xs : List X) (i : ℕ) (d : X) → i < length xs
    → flat_map f xs ≡ flat_map f (take i xs) ++ (f (get_or xs i d) ++ flat_map f (drop (suc i) xs))
split_at f [] i d l = absurd (omega (arith, l))
split_at f (x ∷ xs) zero d l = refl
split_at f (x ∷ xs) (suc i) d l =
    ap (λ rest. f x ++ rest) (split_at f xs i d (omega (arith, l)))
    ∙ sym (append_assoc (f x) (flat_map f (take i xs)) (f (get_or xs i d) ++ flat_map f (drop (suc i) xs)))

pub set_at : {X A : Type 0} (f : X → List A) (xs : List X) (i : ℕ) (y : X) → i < length xs
    → flat_map f (slice_set xs i y) ≡ flat_map f (take i xs) ++ (f y ++ flat_map f (drop (suc i) xs))
set_at f [] i y l = absurd (omega (arith, l))
set_at f (x ∷ xs) zero y l = refl
set_at f (x ∷ xs) (suc i) y l =
    ap (λ rest. f x ++ rest) (set_at f xs i y (omega (arith, l)))
    ∙ sym (append_assoc (f x) (flat_map f (take i xs)) (f y ++ flat_map f (drop (suc i) xs)))

-- what is joined stays if a block is changed that stays the same list
pub set_same : {X A : Type 0} (f : X → List A) (xs : List X) (i : ℕ) (d y : X) → i < length xs → f y ≡ f (get_or xs i d)
    → flat_map f (slice_set xs i y) ≡ flat_map f xs
set_same f xs i d y l same =
    set_at f xs i y l ∙ ap (λ mid. flat_map f (take i xs) ++ (mid ++ flat_map f (drop (suc i) xs))) same ∙ sym (split_at f xs i d l)

-- what is joined has more at its end if the last block has
pub set_last : {X A : Type 0} (f : X → List A) (xs : List X) (i : ℕ) (d y : X) (more : List A) → i + 1 ≡ length xs → f y ≡ f (get_or xs i d) ++ more
    → flat_map f (slice_set xs i y) ≡ flat_map f xs ++ more
set_last f [] i d y more l is = absurd (omega (arith, l))
set_last f (x ∷ []) zero d y more l is =
    append-nil (f y) ∙ is ∙ ap (λ first. first ++ more) (sym (append-nil (f x)))
set_last f (x ∷ w ∷ xs) zero d y more l is = absurd (omega (arith, l))
set_last f (x ∷ xs) (suc i) d y more l is =
    ap (λ rest. f x ++ rest) (set_last f xs i d y more (omega (arith, l)) is) ∙ sym (append_assoc (f x) (flat_map f xs) more)

-- what is joined loses what a block loses
pub set_removed : {X A : Type 0} (f : X → List A) (xs : List X) (i j : ℕ) (d y : X) → i < length xs → j < length (f (get_or xs i d))
    → f y ≡ remove (f (get_or xs i d)) j → flat_map f (slice_set xs i y) ≡ remove (flat_map f xs) (length (flat_map f (take i xs)) + j)
set_removed f xs i j d y l within is =
    let front = flat_map f (take i xs) in
    let block = f (get_or xs i d) in
    let back = flat_map f (drop (suc i) xs) in
    let at : length front + j - length front ≡ j = omega arith in
    set_at f xs i y l
    ∙ ap (λ mid. front ++ (mid ++ back)) is
    ∙ ap (λ rest. front ++ rest) (sym (remove-append_left block back j within))
    ∙ ap (λ k. front ++ remove (block ++ back) k) (sym at)
    ∙ sym (remove-append_right front (block ++ back) (length front) (length front + j) refl (omega arith))
    ∙ ap (λ all. remove all (length front + j)) (sym (split_at f xs i d l))

-- an empty block leaves, and what is joined stays
pub without_empty : {X A : Type 0} (f : X → List A) (xs : List X) (i : ℕ) (d : X) → i < length xs → f (get_or xs i d) ≡ []
    → flat_map f (remove xs i) ≡ flat_map f xs
without_empty f xs i d l empty =
    flat_map-append f (take i xs) (drop (suc i) xs)
    ∙ ap (λ mid. flat_map f (take i xs) ++ (mid ++ flat_map f (drop (suc i) xs))) (sym empty)
    ∙ sym (split_at f xs i d l)

-- one of a block is one of what is joined
pub get_joined : {X A : Type 0} (f : X → List A) (xs : List X) (i j : ℕ) (d : X) (p : A) → i < length xs → j < length (f (get_or xs i d))
    → p ≡ get_or (f (get_or xs i d)) j p → slice_get (flat_map f xs) (length (flat_map f (take i xs)) + j) ≡ Some p
get_joined f xs i j d p l within is =
    let at = length (flat_map f (take i xs)) + j in
    let size = length-flat_map-take f xs i d l in
    slice_get_read (flat_map f xs) (length (flat_map f xs)) at p refl (omega (arith, size, within))
    (is ∙ sym (get_or-flat_map f xs i j d p l within))
