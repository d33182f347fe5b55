-- The keys of the marks are held when the units were told.
use Rattle.abt_draw.proofs.Keyed.{key_still, stuck_key_still, words_still}
use Rattle.abt_draw.proofs.Within.{grows_on}
use Rattle.abt_draw.proofs.legend.push_legend.Goals as goal

pub returns-clause-legend : goal.returns-clause-legend
returns-clause-legend c =
    let told = grows_on _ _ _ c.in_ok-push_words.ensures.grows c.in_ok-push_words-2.ensures.grows in record {
      marks = λ mark. key_still mark _ _ (grows_on _ _ _ c.in_ok-push_stuck_key.ensures.grows told) (c.in_ok-push_marks.ensures.keys mark);
      stuck = stuck_key_still _ _ told c.in_ok-push_stuck_key.ensures.key;
      rates = words_still _ _ _ c.in_ok-push_words-2.ensures.grows (rw c.rates.ensures at c.in_ok-push_words.ensures.words);
      times = rw c.times.ensures at c.in_ok-push_words-2.ensures.words;
    }
