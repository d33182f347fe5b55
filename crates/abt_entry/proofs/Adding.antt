-- Members behind members, and the objects that they end as.
use Rattle.std.proofs.Common.{◌≡◌, ◌++◌, ◌∙◌, ℕ, List, [], ◌∷◌, Result, Ok, Err, OnOk, ap, append_assoc}
use Rattle.json.specs.Token.{Token, end_object}
use Rattle.json.specs.Print.{print}
use Rattle.json.specs.Written.{Written}
use Rattle.abt_text.specs.Text.{◌⋅◌, newline}
use Rattle.abt_entry.specs.ObjectMembers.{Adds, Holds, object_line}

pub adds_both : (a b : List Token) (x y z : Written) → Adds a x y → Adds b y z → Adds (a ++ b) x z
adds_both a b x y z p q =
    record { before = q.before ∙ p.before; tokens = q.tokens ∙ ap (λ t. t ++ b) p.tokens ∙ append_assoc x.tokens a b }

-- the last call of a function says whether it adds
pub adds_last : {E : Type 0} (r : Result (Unit {0}) E) (a b : List Token) (x y z : Written)
    → Adds a x y → OnOk r (Adds b y z) → OnOk r (Adds (a ++ b) x z)
adds_last (Ok v) a b x y z p q = adds_both a b x y z p q
adds_last (Err e) a b x y z p q = q

-- an object that was begun, got two runs of members, and was ended
pub line_of_two : (text new : List ℕ) (a b : List Token) (x y z : Written) → Holds text [] x → Adds a x y → Adds b y z
    → new ≡ (z.before ++ print (z.tokens ++ end_object ∷ [])) ⋅ newline → new ≡ text ++ object_line (a ++ b)
line_of_two text new a b x y z begun p q is =
    let both = adds_both a b x y z p q in
    rw (is, both.before, both.tokens, begun.before, begun.tokens) (append_assoc text _ newline)

pub line_last : {E : Type 0} (r : Result (Unit {0}) E) (text new : List ℕ) (a b : List Token) (x y z : Written)
    → Holds text [] x → Adds a x y → Adds b y z
    → OnOk r (new ≡ (z.before ++ print (z.tokens ++ end_object ∷ [])) ⋅ newline) → OnOk r (new ≡ text ++ object_line (a ++ b))
line_last (Ok v) text new a b x y z begun p q is = line_of_two text new a b x y z begun p q is
line_last (Err e) text new a b x y z begun p q is = is
