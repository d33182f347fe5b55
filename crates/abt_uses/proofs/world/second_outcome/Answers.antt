-- The world stands for the first event when the second one happens.
use Rattle.std.proofs.Common.{[], ◌∷◌}
use Rattle.abt_uses.proofs.world.second_outcome.Goals as goal

pub returns : goal.returns
returns c =
    let net = c.args.net.now in
    let between = (c.in_ok-step.ensures.outcome net [] c.in_ok-world.ensures.value).1 in
    (c.in_ok-outcome.ensures.outcome net (c.args.first.now ∷ []) between).0
