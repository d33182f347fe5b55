-- The tokens of an array are those of its values, and a bracket.
use Rattle.std.proofs.Common.{◌≡◌, ◌∙◌, List, [], ◌∷◌, ◌++◌, refl, sym, ap, append_assoc}
use Rattle.std.specs.Prelude.{Result, Ok, Err, OnOk}
use Rattle.json.specs.Json.{Json, array}
use Rattle.json.specs.Token as token
use Rattle.json.specs.Tree.{json_tokens, items_tokens}
use Rattle.json.specs.Written.{Written, Writes}
use Rattle.abt_entry.specs.Written.{Puts}
use Rattle.abt_journal_text.specs.NetJson.{items_of, all_tokens}

pub items_are : (values : List Json) → items_tokens (items_of values) ≡ all_tokens values ++ token.end_array ∷ []
items_are [] = refl
items_are (json ∷ more) =
    ap (λ (ts : List token.Token). json_tokens json ++ ts) (items_are more) ∙ sym (append_assoc (json_tokens json) (all_tokens more) (token.end_array ∷ []))

then_ok : {A E : Type 0} (r : Result A E) (P Q : Type 0) → (P → Q) → OnOk r P → OnOk r Q
then_ok (Ok x) P Q f p = f p
then_ok (Err e) P Q f p = tt

-- a bracket, the values, and the other bracket
pub array_puts : {E : Type 0} (r : Result (Unit {0}) E) (old opened filled new : Written) (values : List Json)
    → opened.tokens ≡ old.tokens ++ token.begin_array ∷ [] → opened.before ≡ old.before
    → filled.tokens ≡ opened.tokens ++ all_tokens values → filled.before ≡ opened.before → Writes r filled new token.end_array
    → Puts r old new (json_tokens (array (items_of values)))
array_puts r old opened filled new values p pb q qb w = record {
  ok = then_ok r _ _ (λ is. is ∙ ap (λ (ts : List token.Token). ts ++ token.end_array ∷ []) (q ∙ ap (λ (ts : List token.Token). ts ++ all_tokens values) p)
      ∙ append_assoc (old.tokens ++ token.begin_array ∷ []) (all_tokens values) (token.end_array ∷ [])
      ∙ append_assoc old.tokens (token.begin_array ∷ []) (all_tokens values ++ token.end_array ∷ [])
      ∙ ap (λ (ts : List token.Token). old.tokens ++ token.begin_array ∷ ts) (sym (items_are values))) w.ok;
  before = w.room.0 ∙ qb ∙ pb;
}
