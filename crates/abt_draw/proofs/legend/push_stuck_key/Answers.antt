-- The circle and the cross are held when their meaning was added.
use Rattle.abt_draw.proofs.Keyed.{on_both}
use Rattle.abt_draw.proofs.Within.{grows_by, grows_on, holds_added, holds_still}
use Rattle.abt_draw.proofs.legend.push_stuck_key.Goals as goal

pub returns-clause-key : goal.returns-clause-key
returns-clause-key c = on_both c.push_words.result _ _ _ c.push_words.ensures.grows c.push_words.ensures.words
    (λ grows words. record {
      at = c.beside-at.result;
      circle = holds_still _ _ _ (grows_on _ _ _ (grows_by _ _ _ c.in_ok-push_cross.ensures) grows) (holds_added _ _ _ c.in_ok-push_circle.ensures);
      cross = holds_still _ _ _ grows (holds_added _ _ _ c.in_ok-push_cross.ensures);
      meaning = rw c.stuck.ensures at words;
    })
