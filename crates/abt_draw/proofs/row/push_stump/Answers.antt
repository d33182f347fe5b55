-- The line is held when the cross was added; its words stand among the notes.
use Rattle.std.proofs.lemmas.Result.{on_ok_weaker}
use Rattle.abt_draw.proofs.Within.{holds_line, grows_by}
use Rattle.abt_draw.proofs.row.push_stump.Goals as goal

pub returns-clause-drawn : goal.returns-clause-drawn
returns-clause-drawn c = on_ok_weaker c.push_label.result
    (λ is. holds_line _ _ _ _ _ _ _ _ _ c.lost_class.ensures c.point-from.ensures c.stump_end-end.ensures c.in_ok-push_line.ensures
    (grows_by _ _ _ c.in_ok-push_cross.ensures))
    c.push_label.ensures
