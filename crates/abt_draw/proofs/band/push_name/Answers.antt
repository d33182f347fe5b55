-- The words are those that were added.
use Rattle.std.proofs.Common.{◌≡◌, codes, rules}
use Rattle.std.proofs.lemmas.Result.{on_ok_weaker}
use Rattle.abt_text.specs.Text.{◌⋅◌, decimal}
use Rattle.abt_draw.specs.Lifelines.{kind_name, number_of}
use Rattle.abt_draw.proofs.Within.{holds_added}
use Rattle.abt_draw.proofs.band.push_name.Goals as goal

pub returns-clause-name : goal.returns-clause-name
returns-clause-name c =
    let words : c.as_str.result.now ≡ kind_name c.args.actor ⋅ codes " " ⋅ decimal (number_of c.args.actor) = search rules in
    on_ok_weaker c.push_label.result (λ is. record { place = record { x = 60; y = c.y-y.result }; name = holds_added _ _ _ (rw words at is) }) c.push_label.ensures
