-- The name is held when the frames were drawn.
use Rattle.abt_draw.proofs.Banded.{port_band}
use Rattle.abt_draw.proofs.picture.push_port.Goals as goal

pub returns-clause-band : goal.returns-clause-band
returns-clause-band c = λ port is. port_band c.args.sheet.now c.args.actor port c.in-Port.port c.args.base c.most_at-most.result c.as_slice.result.now _ _ c.in-Port.is
    c.as_slice.ensures c.most_at-most.ensures c.in_ok-push_ground.ensures.name c.in_ok-push_stacks.ensures.grows c.in_ok-push_stacks.ensures.drawn is
