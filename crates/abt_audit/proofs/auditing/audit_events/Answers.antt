-- The headline makes the trace safe.
use Rattle.std.proofs.Common.{[], append-nil, refl}
use Rattle.abt_audit.proofs.auditing.audit_events.Goals as goal

pub returns : goal.returns
returns c =
    let traced = c.in_ok-trace.ensures.trace in
    let headline = c.in_ok-trace.ensures.headline c.as_slice.result.now [] (append-nil c.as_slice.result.now) in
    record { are_events = refl; is_trace = rw c.as_slice.ensures at traced; is_safe = traced.safe.1 headline.safe }
