-- The headline makes the trace safe.
use Rattle.std.proofs.Common.{[], append-nil}
use Rattle.abt_uses.proofs.weave.events_of.Goals as goal

pub returns-clause-safe : goal.returns-clause-safe
returns-clause-safe c =
    let events = c.as_slice.result.now in
    let headline = c.in_ok-trace.ensures.headline events [] (append-nil events) in
    c.in_ok-trace.ensures.trace.safe.1 headline.safe
