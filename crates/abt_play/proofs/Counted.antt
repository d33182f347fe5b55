-- How many there are, one of which is taken.
use Rattle.std.proofs.Common.{◌≡◌, ℕ, ◌+◌, Bool, cond, if◌then◌else◌, List, slice_get, count_by, Option, Some, ap, sym, ◌∙◌}
use Rattle.std.proofs.lemmas.List.Sums.{sum_by-remove}
use Rattle.std.proofs.lemmas.Option.{get_or_from_slice_get, slice_get_within}
use Rattle.std.specs.List.{remove}

pub count_by-taken : {A : Type 0} (p : A → Bool) (xs : List A) (i : ℕ) (x : A) → slice_get xs i ≡ Some x
    → count_by p (remove xs i) + (if p x then 1 else 0) ≡ count_by p xs
count_by-taken p xs i x is =
    ap (λ w. count_by p (remove xs i) + cond (p w) 1 0) (sym (get_or_from_slice_get xs i x x is))
    ∙ sum_by-remove (λ w. cond (p w) 1 0) xs i x (slice_get_within xs i x is)
