-- The line of the least is held when that of the rate was added.
use Rattle.std.proofs.Common.{codes}
use Rattle.abt_draw.proofs.Banded.{level_still}
use Rattle.abt_draw.proofs.rates.push_pair.Goals as goal

pub returns-clause-drawn : goal.returns-clause-drawn
returns-clause-drawn c = record {
  rate = c.in_ok-push_step-2.ensures.drawn;
  least = level_still (codes "least") (codes "held along the path: at least") c.args.band.base c.args.band.most c.args.rates.1 _ _
      c.in_ok-push_step-2.ensures.grows c.in_ok-push_step.ensures.drawn;
}
