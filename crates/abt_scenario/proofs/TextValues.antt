-- The texts of an array, where all of its values are texts.
use Rattle.std.proofs.Common.{◌≡◌, ◌∙◌, ap, Bool, true, false, ◌∷◌, refl, Ok, Err}
use Rattle.std.specs.Prelude.{if◌then◌else◌, List}
use Rattle.toml.specs.Data.{Items, string, integer, float, boolean, datetime, array, table, no_items, item}
use Rattle.abt_text.specs.Text.{Text}
use Rattle.abt_scenario.specs.declared.key.Key.{Key}
use Rattle.abt_scenario.specs.declared.fault.ScenarioFault.TheVariants.{WrongType}
use Rattle.abt_text.specs.FirstFault.{◌>>=◌}
use Rattle.abt_scenario.specs.Reading.{Read}
use Rattle.abt_scenario.specs.Values.{are_texts, texts_among, texts_in}

one_more : (key : Key) (text : Text) (texts : List Text) (all : Bool) →
    ((if all then Ok texts else Err (WrongType key)) >>= (λ more. Ok (text ∷ more))) ≡ (if all then Ok (text ∷ texts) else Err (WrongType key))
one_more key text texts true = refl
one_more key text texts false = refl

pub texts_are : (key : Key) (values : Items) → texts_in key values ≡ (if are_texts values then Ok (texts_among values) else Err (WrongType key))
texts_are key no_items = refl
texts_are key (item (string text) values) =
    ap (λ (read : Read (List Text)). read >>= (λ more. Ok (text ∷ more))) (texts_are key values) ∙ one_more key text (texts_among values) (are_texts values)
texts_are key (item (integer z) values) = refl
texts_are key (item (float x) values) = refl
texts_are key (item (boolean b) values) = refl
texts_are key (item (datetime t) values) = refl
texts_are key (item (array v) values) = refl
texts_are key (item (table m) values) = refl
