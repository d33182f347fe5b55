-- What stands in a list, and families of things of which one changes.
use Rattle.std.specs.Prelude.{◌≡◌, ◌≢◌, ◌⊎◌, ℕ, List, [], ◌∷◌}

-- this stands in a list
abbrev pub IsIn : {A : Type 0} → A → List A → Type 0
IsIn x [] = ⊥
IsIn x (y ∷ ys) = (x ≡ y) ⊎ IsIn x ys

-- Nothing changed, or one of them alone, which is this then.
abbrev pub Stay : {A : Type 0} → (old new : ℕ → A) → Type 0
Stay old new = (n : ℕ) → new n ≡ old n

abbrev pub OnlyAt : {A : Type 0} → (n : ℕ) → (old new : ℕ → A) → A → Type 0
OnlyAt n old new value = (new n ≡ value) × ((other : ℕ) → other ≢ n → new other ≡ old other)
