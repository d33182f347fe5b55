-- Lists that are read value by value.
use Rattle.std.proofs.Common.{◌≡◌, ◌++◌, List, [], ◌∷◌, refl, ap, sym, append_assoc, Ok, Err}
use Rattle.abt_text.specs.FirstFault.{◌>>=◌}
use Rattle.abt_entry.specs.Reading.{Read}

-- what was read, and then what is read of the rest
abbrev pub with_rest : {A : Type 0} → List A → Read (List A) → Read (List A)
with_rest done (Ok rest) = Ok (done ++ rest)
with_rest done (Err fault) = Err fault

pub with_rest-more : {A : Type 0} (done : List A) (x : A) (rest : Read (List A))
    → with_rest done (rest >>= (λ xs. Ok (x ∷ xs))) ≡ with_rest (done ++ x ∷ []) rest
with_rest-more done x (Ok rest) = ap Ok (sym (append_assoc done (x ∷ []) rest))
with_rest-more done x (Err fault) = refl
