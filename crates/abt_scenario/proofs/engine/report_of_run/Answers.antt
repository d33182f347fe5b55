-- The trace of the run is the one that the text says.
use Rattle.std.proofs.Common.{Result, Ok, Err, IfOk}
use Rattle.abt_scenario.proofs.engine.report_of_run.Goals as goal

if_ok-map : {T E : Type 0} (r : Result T E) (P Q : T → Type 0) → ((x : T) → P x → Q x) → IfOk r P → IfOk r Q
if_ok-map (Ok x) P Q f p = f x p
if_ok-map (Err e) P Q f p = p

pub returns : goal.returns
returns c =
    let trace = c.in_ok-trace.trace in
    if_ok-map c.report_text.result _ _ (λ text is. record { trace = trace; is_trace = c.in_ok-trace.ensures.trace; is_safe = c.in_ok-trace.ensures.safe; is_report = is }) c.report_text.ensures
