-- Each key is held when those behind it were added.
use Rattle.abt_draw.proofs.Keyed.{each_mark, key_still, on_both}
use Rattle.abt_draw.proofs.Within.{grows_last, grows_on}
use Rattle.abt_draw.proofs.legend.push_marks.Goals as goal

pub returns-clause-keys : goal.returns-clause-keys
returns-clause-keys c = on_both c.push_mark-7.result _ _ _ c.push_mark-7.ensures.grows c.push_mark-7.ensures.key
    (λ last idle.
    let refused = grows_on _ _ _ c.in_ok-push_mark-6.ensures.grows last in
    let set = grows_on _ _ _ c.in_ok-push_mark-5.ensures.grows refused in
    let cell = grows_on _ _ _ c.in_ok-push_mark-4.ensures.grows set in
    let ask = grows_on _ _ _ c.in_ok-push_mark-3.ensures.grows cell in
    let crash = grows_on _ _ _ c.in_ok-push_mark-2.ensures.grows ask in
    each_mark _ (key_still _ _ _ crash c.in_ok-push_mark.ensures.key) (key_still _ _ _ ask c.in_ok-push_mark-2.ensures.key)
    (key_still _ _ _ cell c.in_ok-push_mark-3.ensures.key) (key_still _ _ _ set c.in_ok-push_mark-4.ensures.key)
    (key_still _ _ _ refused c.in_ok-push_mark-5.ensures.key) (key_still _ _ _ last c.in_ok-push_mark-6.ensures.key) idle)

pub returns-clause-grows : goal.returns-clause-grows
returns-clause-grows c = grows_last c.push_mark-7.result _ _ _
    (grows_on _ _ _ c.in_ok-push_mark.ensures.grows (grows_on _ _ _ c.in_ok-push_mark-2.ensures.grows (grows_on _ _ _ c.in_ok-push_mark-3.ensures.grows
    (grows_on _ _ _ c.in_ok-push_mark-4.ensures.grows (grows_on _ _ _ c.in_ok-push_mark-5.ensures.grows c.in_ok-push_mark-6.ensures.grows)))))
    c.push_mark-7.ensures.grows
