-- The headline makes the trace safe.
use Rattle.std.proofs.Common.{[], Result, Ok, Err, IfOk, OnOk, append-nil}
use Rattle.abt_scenario.proofs.engine.trace_of.Goals as goal

if_ok-both : {T E : Type 0} (r : Result T E) (P Q : T → Type 0) (S : Type 0) → ((x : T) → P x → S → Q x) → IfOk r P → OnOk r S → IfOk r Q
if_ok-both (Ok x) P Q S f p s = f x p s
if_ok-both (Err e) P Q S f p s = p

pub returns-clause-safe : goal.returns-clause-safe
returns-clause-safe c =
    let events = c.as_slice.result.now in
    if_ok-both c.run.result _ _ _ (λ trace traced holds. traced.safe.1 holds.safe) c.run.ensures.trace
    (c.run.ensures.headline events [] (append-nil events))
