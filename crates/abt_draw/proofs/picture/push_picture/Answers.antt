-- The lifelines and the rows are held when what stands below them was added.
use Rattle.std.proofs.lemmas.Result.{on_ok_weaker}
use Rattle.abt_draw.proofs.Banded.{bands_still}
use Rattle.abt_draw.proofs.Shown.{cells_still, lifelines_still, rows_still, stuck_rows_still}
use Rattle.abt_draw.proofs.Within.{grows_by, grows_on, holds_added}
use Rattle.abt_draw.proofs.picture.push_picture.Goals as goal

pub returns-clause-lifelines : goal.returns-clause-lifelines
returns-clause-lifelines c = on_ok_weaker c.push_legend.result
    (λ more. lifelines_still _ _ _ (grows_on _ _ _ c.in_ok-push_rows.ensures.grows (grows_on _ _ _ c.in_ok-push_stuck.ensures.grows
    (grows_on _ _ _ c.in_ok-bottom.ensures.grows (grows_on _ _ _ (grows_by _ _ _ c.in_ok-lower.ensures) more)))) c.in_ok-push_lifelines.ensures)
    c.push_legend.ensures.grows

pub returns-clause-rows : goal.returns-clause-rows
returns-clause-rows c = on_ok_weaker c.push_legend.result
    (λ more. rows_still _ _ _ _ (grows_on _ _ _ c.in_ok-push_stuck.ensures.grows (grows_on _ _ _ c.in_ok-bottom.ensures.grows
    (grows_on _ _ _ (grows_by _ _ _ c.in_ok-lower.ensures) more))) c.in_ok-push_rows.ensures.rows)
    c.push_legend.ensures.grows

pub returns-clause-stuck : goal.returns-clause-stuck
returns-clause-stuck c = on_ok_weaker c.push_legend.result
    (λ more. stuck_rows_still _ _ _ (grows_on _ _ _ c.in_ok-bottom.ensures.grows (grows_on _ _ _ (grows_by _ _ _ c.in_ok-lower.ensures) more))
    c.in_ok-push_stuck.ensures.rows)
    c.push_legend.ensures.grows

pub returns-clause-bands : goal.returns-clause-bands
returns-clause-bands c = on_ok_weaker c.push_legend.result
    (λ more. bands_still _ _ _ (grows_on _ _ _ (grows_by _ _ _ c.in_ok-lower.ensures) more) c.in_ok-bottom.ensures.bands) c.push_legend.ensures.grows

pub returns-clause-cells : goal.returns-clause-cells
returns-clause-cells c = on_ok_weaker c.push_legend.result
    (λ more. cells_still _ _ _ more (record { upper = c.in_ok-bottom.bottom; held = holds_added _ _ _ c.in_ok-lower.ensures })) c.push_legend.ensures.grows
