-- The name is held when the frames were drawn.
use Rattle.abt_draw.proofs.Banded.{source_band}
use Rattle.abt_draw.proofs.picture.push_source.Goals as goal

pub returns-clause-band : goal.returns-clause-band
returns-clause-band c = λ conn is. source_band c.args.sheet.now c.args.actor conn c.in-Source.conn c.args.base c.most_of-most.result c.as_slice.result.now _ _ c.in-Source.is
    c.as_slice.ensures c.most_of-most.ensures c.in_ok-push_ground.ensures.name c.in_ok-push_rates.ensures.grows c.in_ok-push_rates.ensures.drawn is
