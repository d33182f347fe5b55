-- What is written in two parts.
use Rattle.std.proofs.Common.{◌≡◌, ◌++◌, ◌∙◌, List, ap, append_assoc}
use Rattle.std.specs.Prelude.{Result, Ok, Err, OnOk}
use Rattle.json.specs.Token.{Token}
use Rattle.json.specs.Written.{Written}
use Rattle.abt_entry.specs.Written.{Puts}

then_ok : {A E : Type 0} (r : Result A E) (P Q : Type 0) → (P → Q) → OnOk r P → OnOk r Q
then_ok (Ok x) P Q f p = f p
then_ok (Err e) P Q f p = tt

pub joined : {E : Type 0} (r : Result (Unit {0}) E) (old mid new : Written) (xs ys : List Token) → mid.tokens ≡ old.tokens ++ xs → mid.before ≡ old.before
    → Puts r mid new ys → Puts r old new (xs ++ ys)
joined r old mid new xs ys front before puts = record {
  ok = then_ok r _ _ (λ is. is ∙ ap (λ ts. ts ++ ys) front ∙ append_assoc old.tokens xs ys) puts.ok;
  before = puts.before ∙ before;
}
