-- The word that is looked at is the one that was found.
use Rattle.std.proofs.Common.{rules, ◌≡◌, ◌⊎◌, IfErr, codes, subst}
use Rattle.abt_perform.specs.declared.plan.WordsFault.TheVariants.{Memory}
use Rattle.abt_text.specs.Text.{Text}
use Rattle.abt_cli.specs.Refused.{IsNoCapacity}
use Rattle.abt_cli.specs.Words.{word_in}
use Rattle.abt_cli.proofs.readers.capacity_of.Goals as goal

pub returns-clause-err : goal.returns-clause-err
returns-clause-err c =
    let is_word : c.unwrap_or.result.now ≡ word_in c.args.found.now (codes "CAPACITY") = search rules in
    let Refuses : Text → Type 0 = λ word. IfErr c.capacity_said.result (λ fault. (fault ≡ Memory) ⊎ IsNoCapacity word) in
    subst Refuses is_word c.capacity_said.ensures.err
