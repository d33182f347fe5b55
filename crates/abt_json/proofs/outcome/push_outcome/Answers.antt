use Rattle.abt_entry.proofs.Adding.{adds_last}
use Rattle.abt_json.proofs.outcome.push_outcome.Goals as goal

pub returns-in_ok-push_named-in-Asked : goal.returns-in_ok-push_named-in-Asked
returns-in_ok-push_named-in-Asked c =
    rw (c.in-Asked.is) (adds_last c.push_request.result _ _ _ _ _ c.in_ok-push_named-in-Asked.ensures c.push_request.ensures)

pub returns-in_ok-push_named-in-Repeated : goal.returns-in_ok-push_named-in-Repeated
returns-in_ok-push_named-in-Repeated c =
    rw (c.in-Repeated.is)
    (adds_last c.push_request-in-Repeated.result _ _ _ _ _ c.in_ok-push_named-in-Repeated.ensures c.push_request-in-Repeated.ensures)

pub returns-in-NotEnabled : goal.returns-in-NotEnabled
returns-in-NotEnabled c = rw (c.in-NotEnabled.is, ← c.cause_name.ensures) c.push_both-in-NotEnabled.ensures
