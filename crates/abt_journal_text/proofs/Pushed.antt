-- Lists of lists with an item more in one of them.
use Rattle.std.proofs.Common.{◌≡◌, ℕ, zero, suc, ◌+◌, ◌<◌, ◌++◌, List, [], ◌∷◌, length, map, Vec, refl, sym, ap, ◌∙◌, arith}
use Rattle.std.specs.Prelude.{slice_set, slice_index_or, replicate}
use Rattle.std.specs.declared.alloc.Global.{Global}
use Rattle.std.proofs.lemmas.List.{map_push, replicate_more, length-map, length-set}
use Rattle.abt_journal_text.specs.Books.{appended_at}

abbrev pub lists_in : {A : Type 0} → List (Vec A Global) → List (List A)
lists_in {A} vs = map (λ (items : Vec A Global). items.items) vs

pub pushed_here : {A : Type 0} (vs : List (Vec A Global)) (n : ℕ) (old new : Vec A Global) (item : A) → n < length vs → old ≡ slice_index_or vs n old
    → new.items ≡ old.items ++ item ∷ [] → lists_in (slice_set vs n new) ≡ appended_at (lists_in vs) n item
pushed_here [] n old new item low at is = absurd (omega arith)
pushed_here {A} (v ∷ vs) zero old new item low at is =
    ap (λ (xs : List A). xs ∷ lists_in vs) (is ∙ ap (λ (w : Vec A Global). w.items ++ item ∷ []) at)
pushed_here {A} (v ∷ vs) (suc n) old new item low at is = ap (λ (xs : List (List A)). v.items ∷ xs) (pushed_here vs n old new item (omega arith) at is)

pub pushed_at : {A : Type 0} (vs : List (Vec A Global)) (m n : ℕ) (old new : Vec A Global) (item : A) → m ≡ n → m < length vs → old ≡ slice_index_or vs m old
    → new.items ≡ old.items ++ item ∷ [] → lists_in (slice_set vs m new) ≡ appended_at (lists_in vs) n item
pushed_at {A} vs m n old new item same low at is = pushed_here vs m old new item low at is ∙ ap (λ (k : ℕ). appended_at (lists_in vs) k item) same

pub as_many : {A : Type 0} (vs : List (Vec A Global)) (n : ℕ) (new : Vec A Global) → length (lists_in (slice_set vs n new)) ≡ length (lists_in vs)
as_many {A} vs n new = length-map (slice_set vs n new) (λ (items : Vec A Global). items.items) ∙ length-set vs n new ∙ sym (length-map vs (λ (items : Vec A Global). items.items))

pub one_more : {A : Type 0} (vs : List (Vec A Global)) (n : ℕ) (new : Vec A Global) → lists_in vs ≡ replicate n [] → new.items ≡ [] → lists_in (vs ++ new ∷ []) ≡ replicate (n + 1) []
one_more {A} vs n new is empty =
    map_push (λ (items : Vec A Global). items.items) vs new ∙ ap (λ (xs : List (List A)). xs ++ new.items ∷ []) is
    ∙ ap (λ (x : List A). replicate n [] ++ x ∷ []) empty ∙ replicate_more n []
