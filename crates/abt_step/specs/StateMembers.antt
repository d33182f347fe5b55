-- The state of a net as members of an object.
use Rattle.std.specs.Prelude.{ℕ, List, [], ◌∷◌, ◌++◌, codes}
use Rattle.json.specs.Token.{Token, begin_array, end_array, key, number}
use Rattle.abt_text.specs.Text.{Text, decimal}
use Rattle.abt_json.specs.Objects.{rate_strings}
use Rattle.abt_step.specs.declared.net_state.NetState.{NetState}

-- an array of these tokens
abbrev pub array_member : Text → List Token → List Token
array_member name tokens = key name ∷ begin_array ∷ (tokens ++ end_array ∷ [])

-- an array of the codes of rates for each path
abbrev pub path_arrays : List (List ℕ) → List Token
path_arrays [] = []
path_arrays (held ∷ more) = (begin_array ∷ (rate_strings held ++ end_array ∷ [])) ++ path_arrays more

abbrev pub number_tokens : List ℕ → List Token
number_tokens [] = []
number_tokens (n ∷ more) = number (decimal n) ∷ number_tokens more

abbrev pub state_members : NetState → List Token
state_members state =
    array_member (codes "rates") (rate_strings state.rates) ++ array_member (codes "held") (path_arrays state.held)
    ++ array_member (codes "totals") (number_tokens state.totals) ++ array_member (codes "capacities") (number_tokens state.capacities)
