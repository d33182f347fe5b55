use Rattle.abt_weave.proofs.progress.carry_on.Goals as goal

pub returns-in-Ok : goal.returns-in-Ok
returns-in-Ok c = λ net events stands. (c.in-Ok.ensures.outcome net events stands).1
