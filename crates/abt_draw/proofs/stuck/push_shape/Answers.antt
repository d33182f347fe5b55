-- The circle is held when the cross was added.
use Rattle.std.proofs.lemmas.Result.{on_ok_weaker}
use Rattle.abt_draw.proofs.Within.{grows_by, holds_added, holds_still}
use Rattle.abt_draw.proofs.stuck.push_shape.Goals as goal

pub returns : goal.returns
returns c = on_ok_weaker c.push_cross.result
    (λ is. record {
      at = record { x = c.x_beside.result; y = c.stuck_y.result };
      beside = c.x_beside.ensures;
      below = c.stuck_y.ensures;
      circle = holds_still _ _ _ (grows_by _ _ _ is) (holds_added _ _ _ c.in_ok-push_circle.ensures);
      cross = holds_added _ _ _ is;
    })
    c.push_cross.ensures
