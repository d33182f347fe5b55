-- Texts that get longer by pieces.
use Rattle.std.proofs.Common.{◌≡◌, ◌++◌, ◌∙◌, ℕ, List, Result, Ok, Err, OnOk, ap, append_assoc}

-- a text gets longer by one piece, and then by others
pub then_text : {E : Type 0} (r : Result (Unit {0}) E) (old a mid b new : List ℕ) → mid ≡ old ++ a → OnOk r (new ≡ mid ++ b) → OnOk r (new ≡ old ++ (a ++ b))
then_text (Ok v) old a mid b new first is = is ∙ ap (λ t. t ++ b) first ∙ append_assoc old a b
then_text (Err e) old a mid b new first is = tt
