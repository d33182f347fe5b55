-- A list that grows beside another.
use Rattle.std.proofs.Common.{◌≡◌, ℕ, zero, suc, ◌+◌, ◌<◌, List, [], ◌∷◌, ◌++◌, refl, sym, ap, ◌∙◌, arith, length, take}
use Rattle.std.specs.Prelude.{Some, option_map, slice_get, slice_index_or}

pushed :
    {A : Type 0} (made : List A) (given : List ℕ) (f : ℕ → ℕ → A) (i d : ℕ) (x : A) → ((p : ℕ) → slice_get made p ≡ option_map (f p) (slice_get (take i given) p)) →
    i < length given → x ≡ f i (slice_index_or given i d) → (p : ℕ) → slice_get (made ++ x ∷ []) p ≡ option_map (f p) (slice_get (take (suc i) given) p)
pushed made [] f i d x h low is p = absurd (omega arith)
pushed [] (u ∷ given) f zero d x h low is zero = ap Some is
pushed [] (u ∷ given) f zero d x h low is (suc p) = refl
pushed (y ∷ made) (u ∷ given) f zero d x h low is p = absurd (let e = h 0 in cc)
pushed [] (u ∷ given) f (suc i) d x h low is p = absurd (let e = h 0 in cc)
pushed (y ∷ made) (u ∷ given) f (suc i) d x h low is zero = h 0
pushed (y ∷ made) (u ∷ given) f (suc i) d x h low is (suc p) = pushed made given (λ q. f (suc q)) i d x (λ q. h (suc q)) (omega arith) is p

-- one more at the end
pub pushed_next :
    {A : Type 0} (made more : List A) (given : List ℕ) (f : ℕ → ℕ → A) (i d : ℕ) (x : A) → ((p : ℕ) → slice_get made p ≡ option_map (f p) (slice_get (take i given) p)) →
    i < length given → x ≡ f i (slice_index_or given i d) → more ≡ made ++ x ∷ [] → (p : ℕ) → slice_get more p ≡ option_map (f p) (slice_get (take (i + 1) given) p)
pushed_next made more given f i d x h low is is_more p =
    let next : i + 1 ≡ suc i = omega arith in
    ap (λ l. slice_get l p) is_more ∙ pushed made given f i d x h low is p ∙ ap (λ n. option_map (f p) (slice_get (take n given) p)) (sym next)
