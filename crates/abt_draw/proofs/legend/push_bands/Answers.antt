-- The text has only grown.
use Rattle.abt_draw.proofs.Within.{grows_by, grows_last, grows_on}
use Rattle.abt_draw.proofs.legend.push_bands.Goals as goal

pub returns : goal.returns
returns c = grows_last c.push_stroke-4.result _ _ _
    (grows_on _ _ _ c.in_ok-push_stroke.ensures (grows_on _ _ _ (grows_by _ _ _ c.in_ok-push_rect.ensures)
    (grows_on _ _ _ c.in_ok-push_words.ensures.grows (grows_on _ _ _ c.in_ok-push_stroke-2.ensures c.in_ok-push_stroke-3.ensures))))
    c.push_stroke-4.ensures
