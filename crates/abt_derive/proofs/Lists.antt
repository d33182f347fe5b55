-- Items of lists of lists.
use Rattle.std.proofs.Common.{◌≡◌, ℕ, zero, suc, List, [], ◌∷◌, map, refl}
use Rattle.std.specs.Prelude.{slice_get, slice_index_or, unwrap_or}
use Rattle.std.specs.Option.{option_map}

pub got_map : {A B : Type 0} (f : A → B) (xs : List A) (n : ℕ) → slice_get (map f xs) n ≡ option_map f (slice_get xs n)
got_map f [] n = refl
got_map f (x ∷ xs) zero = refl
got_map f (x ∷ xs) (suc n) = got_map f xs n

pub got_or_map : {A B : Type 0} (f : A → B) (xs : List A) (n : ℕ) (none : B) → slice_index_or (map f xs) n none ≡ unwrap_or (option_map f (slice_get xs n)) none
got_or_map f [] n none = refl
got_or_map f (x ∷ xs) zero none = refl
got_or_map f (x ∷ xs) (suc n) none = got_or_map f xs n none
