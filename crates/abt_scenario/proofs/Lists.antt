-- Lists that are read value by value.
use Rattle.std.proofs.Common.{◌≡◌, ◌++◌, List, [], ◌∷◌, refl, ap, sym, append_assoc, Ok, Err}
use Rattle.abt_net.specs.declared.conn.Conn.{Conn}
use Rattle.abt_text.specs.Text.{Text}
use Rattle.abt_text.specs.FirstFault.{◌>>=◌}
use Rattle.abt_scenario.specs.Reading.{Read}
use Rattle.abt_scenario.specs.Walk.{ConnectionsRead, with_connection}

-- what was read, and then what is read of the rest
abbrev pub with_rest : {A : Type 0} → List A → Read (List A) → Read (List A)
with_rest done (Ok rest) = Ok (done ++ rest)
with_rest done (Err fault) = Err fault

pub with_rest-more : {A : Type 0} (done : List A) (x : A) (rest : Read (List A))
    → with_rest done (rest >>= (λ xs. Ok (x ∷ xs))) ≡ with_rest (done ++ x ∷ []) rest
with_rest-more done x (Ok rest) = ap Ok (sym (append_assoc done (x ∷ []) rest))
with_rest-more done x (Err fault) = refl

-- connections and their scripts, read one after the other
abbrev pub with_others : List Conn → List (List Text) → Read ConnectionsRead → Read ConnectionsRead
with_others conns scripts (Ok rest) = Ok (record { conns = conns ++ rest.conns; scripts = scripts ++ rest.scripts })
with_others conns scripts (Err fault) = Err fault

pub with_others-more : (conns : List Conn) (scripts : List (List Text)) (conn : Conn) (script : List Text) (rest : Read ConnectionsRead)
    → with_others conns scripts (rest >>= (λ others. Ok (with_connection conn script others)))
    ≡ with_others (conns ++ conn ∷ []) (scripts ++ script ∷ []) rest
with_others-more conns scripts conn script (Ok rest) = rw (append_assoc conns (conn ∷ []) rest.conns, append_assoc scripts (script ∷ []) rest.scripts) refl
with_others-more conns scripts conn script (Err fault) = refl
