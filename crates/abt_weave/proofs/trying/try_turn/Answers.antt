use Rattle.abt_weave.proofs.Tries.{turn_tried}
use Rattle.abt_weave.proofs.trying.try_turn.Goals as goal

pub returns-in-Ok : goal.returns-in-Ok
returns-in-Ok c = λ net events before.
    let step = c.in-Ok.ensures.outcome net events before in
    turn_tried net events c.args.event.now c.args.world.now c.step.new.self c.in-Ok.outcome c.is_enabled.result before step.0 step.1 c.is_enabled.ensures
