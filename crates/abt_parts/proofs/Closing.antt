-- Objects that answer lines, with members behind the line's number.
use Rattle.std.proofs.Common.{◌≡◌, ◌++◌, ◌∙◌, ℕ, List, [], ◌∷◌, Result, Ok, Err, OnOk, ap}
use Rattle.std.specs.Prelude.{codes}
use Rattle.json.specs.Token.{Token, end_object}
use Rattle.json.specs.Print.{print}
use Rattle.json.specs.Written.{Written}
use Rattle.abt_text.specs.Text.{newline}
use Rattle.abt_entry.specs.ObjectMembers.{Adds, Holds, number_member, text_member}
use Rattle.abt_parts.specs.LineObjects.{line_object}

-- an object that was begun, got members, and was ended
pub closed : {E : Type 0} (r : Result (Unit {0}) E) (old new kind : List ℕ) (number : ℕ) (members : List Token) (x y : Written)
    → Holds [] (text_member (codes "kind") kind ++ number_member (codes "line") number) x → Adds members x y
    → OnOk r (new ≡ old ++ (print (y.tokens ++ end_object ∷ []) ++ newline)) → OnOk r (new ≡ old ++ line_object kind number members)
closed (Ok v) old new kind number members x y begun adds is =
    is ∙ ap (λ (ts : List Token). old ++ (print (ts ++ end_object ∷ []) ++ newline)) (adds.tokens ∙ ap (λ ts. ts ++ members) begun.tokens)
closed (Err e) old new kind number members x y begun adds is = tt
