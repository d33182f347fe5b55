-- What is found first is found exactly.
use Rattle.std.proofs.Common.{string_bytes}
use Rattle.abt_draw.specs.Pictures.{IsPicture}
use Rattle.abt_draw.proofs.Faults.{exactly}
use Rattle.abt_draw.proofs.drawing.picture_of.Goals as goal

pub returns-clause-faults : goal.returns-clause-faults
returns-clause-faults c = exactly c.args.plan.now c.args.scene.now.net.now c.args.scene.now.events.now
    (λ text. IsPicture c.args.plan.now c.args.scene.now (string_bytes text)) (λ text is. is.drawn) c.drawn_in.result c.drawn_in.ensures.ok c.drawn_in.ensures.err
