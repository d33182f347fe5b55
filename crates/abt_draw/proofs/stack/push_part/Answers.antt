-- The stack is held when the line was added.
use Rattle.std.proofs.Common.{arith, codes, refl}
use Rattle.abt_draw.specs.Bands.{stack_in}
use Rattle.abt_draw.proofs.Banded.{level_at, stack_still}
use Rattle.abt_draw.proofs.stack.push_part.Goals as goal

pub returns-clause-drawn : goal.returns-clause-drawn
returns-clause-drawn c =
    let stack = stack_in c.args.frame.now c.args.port in
    record {
      stack = λ fits. stack_still c.args.band.base c.args.band.most stack _ _ c.in_ok-push_step.ensures.grows
          ((rw c.stack_in-stack.ensures at c.in_ok-push_stack.ensures.drawn) (omega (arith, fits, c.requires)));
      capacity = level_at _ _ (codes "capacity") (codes "capacity") c.args.band.base c.args.band.most _ _ _ refl refl c.capacity_in-capacity.ensures
          c.in_ok-push_step.ensures.drawn;
    }
