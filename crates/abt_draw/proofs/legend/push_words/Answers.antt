-- The words are those that were added.
use Rattle.std.proofs.lemmas.Result.{on_ok_weaker}
use Rattle.abt_draw.proofs.Within.{holds_added}
use Rattle.abt_draw.proofs.legend.push_words.Goals as goal

pub returns-clause-words : goal.returns-clause-words
returns-clause-words c = on_ok_weaker c.push_label.result (λ is. record { place = c.args.at; label = holds_added _ _ _ is }) c.push_label.ensures
