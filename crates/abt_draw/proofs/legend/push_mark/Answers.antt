-- The mark is held when its meaning was added.
use Rattle.abt_draw.proofs.Keyed.{on_both}
use Rattle.abt_draw.proofs.Within.{holds_added, holds_still}
use Rattle.abt_draw.proofs.legend.push_mark.Goals as goal

pub returns-clause-key : goal.returns-clause-key
returns-clause-key c = on_both c.push_words.result _ _ _ c.push_words.ensures.grows c.push_words.ensures.words
    (λ grows words. record {
      at = c.beside.result;
      shape = holds_still _ _ _ grows (holds_added _ _ _ c.in_ok-push_shape.ensures);
      meaning = rw c.meaning_of.ensures at words;
    })
