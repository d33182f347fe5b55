-- The headline makes the trace safe.
use Rattle.std.proofs.Common.{[], append-nil}
use Rattle.abt_uses.proofs.scenario.is_safe_scenario.Goals as goal

pub returns-clause-ok : goal.returns-clause-ok
returns-clause-ok c =
    let events = c.as_slice.result.now in
    let headline = c.in_ok-trace.ensures.headline events [] (append-nil events) in
    c.in_ok-trace.ensures.trace.safe.1 headline.safe
