-- Lists that are read value by value.
use Rattle.std.proofs.Common.{◌≡◌, ◌++◌, List, [], ◌∷◌, Result, Ok, Err, refl, ap, sym, append_assoc}
use Rattle.abt_text.specs.FirstFault.{◌>>=◌}

-- what was read, and then what is read of the rest
abbrev pub with_rest : {A Fault : Type 0} → List A → Result (List A) Fault → Result (List A) Fault
with_rest done (Ok rest) = Ok (done ++ rest)
with_rest done (Err fault) = Err fault

pub with_rest-more : {A Fault : Type 0} (done : List A) (x : A) (rest : Result (List A) Fault)
    → with_rest done (rest >>= (λ xs. Ok (x ∷ xs))) ≡ with_rest (done ++ x ∷ []) rest
with_rest-more done x (Ok rest) = ap Ok (sym (append_assoc done (x ∷ []) rest))
with_rest-more done x (Err fault) = refl
