-- The headline makes the trace safe.
use Rattle.std.proofs.Common.{[], append-nil}
use Rattle.abt_uses.proofs.world.is_safe_after.Goals as goal

pub returns : goal.returns
returns c =
    let headline = c.in_ok-trace.ensures.headline c.args.events.now [] (append-nil c.args.events.now) in
    c.in_ok-trace.ensures.trace.safe.1 headline.safe
