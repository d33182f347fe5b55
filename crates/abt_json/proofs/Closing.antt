-- Objects of a kind, with members behind it.
use Rattle.std.proofs.Common.{◌≡◌, ◌++◌, ◌∙◌, ℕ, List, [], ◌∷◌, Result, Ok, Err, OnOk, ap, append_assoc}
use Rattle.std.specs.Prelude.{codes}
use Rattle.json.specs.Token.{Token, end_object}
use Rattle.json.specs.Print.{print}
use Rattle.json.specs.Written.{Written}
use Rattle.abt_text.specs.Text.{◌⋅◌, newline}
use Rattle.abt_entry.proofs.Adding.{adds_both}
use Rattle.abt_entry.specs.ObjectMembers.{Adds, Holds, text_member}
use Rattle.abt_json.specs.Kinds.{kind_object}

-- an object that was begun, got members, and was ended
pub kind_line : {E : Type 0} (r : Result (Unit {0}) E) (old new kind : List ℕ) (members : List Token) (x y : Written)
    → Holds [] (text_member (codes "kind") kind) x → Adds members x y
    → OnOk r (new ≡ old ++ (print (y.tokens ++ end_object ∷ []) ++ newline)) → OnOk r (new ≡ old ++ kind_object kind members)
kind_line (Ok v) old new kind members x y begun adds is =
    is ∙ ap (λ (ts : List Token). old ++ (print (ts ++ end_object ∷ []) ++ newline)) (adds.tokens ∙ ap (λ ts. ts ++ members) begun.tokens)
kind_line (Err e) old new kind members x y begun adds is = tt

-- an object behind a text that got two runs of members
kind_of_two : (text new kind : List ℕ) (a b : List Token) (x y z : Written) → Holds text (text_member (codes "kind") kind) x → Adds a x y → Adds b y z
    → new ≡ (z.before ++ print (z.tokens ++ end_object ∷ [])) ⋅ newline → new ≡ text ++ kind_object kind (a ++ b)
kind_of_two text new kind a b x y z begun p q is =
    let both = adds_both a b x y z p q in
    rw (is, both.before, both.tokens, begun.before, begun.tokens) (append_assoc text _ newline)

pub kind_last : {E : Type 0} (r : Result (Unit {0}) E) (text new kind : List ℕ) (a b : List Token) (x y z : Written)
    → Holds text (text_member (codes "kind") kind) x → Adds a x y → Adds b y z
    → OnOk r (new ≡ (z.before ++ print (z.tokens ++ end_object ∷ [])) ⋅ newline) → OnOk r (new ≡ text ++ kind_object kind (a ++ b))
kind_last (Ok v) text new kind a b x y z begun p q is = kind_of_two text new kind a b x y z begun p q is
kind_last (Err e) text new kind a b x y z begun p q is = is
