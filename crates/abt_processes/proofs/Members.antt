-- What stands in a list.
use Rattle.std.proofs.Common.{◌≡◌, ◌≢◌, ◌⊎◌, inl, inr, ℕ, List, [], ◌∷◌, ◌++◌, sym, subst}
use Rattle.std.proofs.lemmas.Bool.{cases_eq}
use Rattle.abt_processes.specs.Lists.{IsIn, Stay, OnlyAt}

-- of a list with one more at its end
pub in_or_last : {A : Type 0} (x y : A) (xs : List A) → IsIn x (xs ++ y ∷ []) → IsIn x xs ⊎ (x ≡ y)
in_or_last x y [] (inl same) = inr same
in_or_last x y [] (inr none) = absurd none
in_or_last x y (z ∷ xs) (inl same) = inl (inl same)
in_or_last x y (z ∷ xs) (inr rest) = elim (in_or_last x y xs rest) [ inl there ↦ inl (inr there) | inr last ↦ inr last ]

-- what holds of each that stays and of the new one holds of all
pub all_but_one : {A : Type 0} (P : ℕ → A → Type 0) (n : ℕ) (old new : ℕ → A) (value : A) → OnlyAt n old new value → P n value → ((m : ℕ) → m ≢ n → P m (old m)) → (m : ℕ) → P m (new m)
all_but_one P n old new value only here there m = elim (cases_eq m n) [
  | inl same ↦ subst (λ k. P k (new k)) (sym same) (subst (P n) (sym only.0) here)
  | inr differ ↦ subst (P m) (sym (only.1 m differ)) (there m differ)
]

pub all_stay : {A : Type 0} (P : ℕ → A → Type 0) (old new : ℕ → A) → Stay old new → ((m : ℕ) → P m (old m)) → (m : ℕ) → P m (new m)
all_stay P old new stay all m = subst (P m) (sym (stay m)) (all m)

-- nothing that changed is nothing that changed at a place
pub stay_only : {A : Type 0} (n : ℕ) (old new : ℕ → A) → Stay old new → OnlyAt n old new (old n)
stay_only n old new stay = (stay n, λ other differ. stay other)
