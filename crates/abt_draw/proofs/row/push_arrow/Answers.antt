-- The line is held; its words stand among the notes.
use Rattle.std.proofs.lemmas.Result.{on_ok_weaker}
use Rattle.abt_draw.proofs.Within.{holds_line, grows_not}
use Rattle.abt_draw.proofs.row.push_arrow.Goals as goal

pub returns-then-is_noted_behind-clause-drawn : goal.returns-then-is_noted_behind-clause-drawn
returns-then-is_noted_behind-clause-drawn c = on_ok_weaker c.push_label.result
    (λ is. holds_line _ _ _ _ _ _ _ _ _ c.arrow_class.ensures c.point-from.ensures c.point-to.ensures c.in_ok-push_line.ensures (grows_not _))
    c.push_label.ensures

pub returns-clause-drawn : goal.returns-clause-drawn
returns-clause-drawn c = on_ok_weaker c.push_label-else-is_noted_behind.result
    (λ is. holds_line _ _ _ _ _ _ _ _ _ c.arrow_class.ensures c.point-from.ensures c.point-to.ensures c.in_ok-push_line.ensures (grows_not _))
    c.push_label-else-is_noted_behind.ensures
