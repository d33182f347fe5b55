use Rattle.abt_weave.proofs.Tries.{own_tried}
use Rattle.abt_weave.proofs.trying.try_own.Goals as goal

pub returns-in-Ok : goal.returns-in-Ok
returns-in-Ok c = λ net events before.
    let step = c.in-Ok.ensures.outcome net events before in
    own_tried net events c.args.event.now c.args.told.now c.args.world.now c.step.new.self c.in-Ok.outcome c.own_tried.result before step.0 step.1 c.own_tried.ensures
