use Rattle.abt_perform_threads.specs.Judging.{journals_of}
use Rattle.abt_perform_threads.proofs.Lines.{if_err-from}
use Rattle.abt_perform_threads.proofs.Woven.{only_memory}
use Rattle.abt_perform_threads.proofs.judging.judge.Goals as goal

pub returns-in_err-events-clause-memory : goal.returns-in_err-events-clause-memory
returns-in_err-events-clause-memory c woven =
    let journals = journals_of c.args.gathered.now in
    let only = only_memory c.args.net.now journals c.in_err-events.field-0.0 woven (rw c.as_slice.ensures.value at c.in_err-events.ensures.none) in
    if_err-from c.from_residual.result _ _ (λ fault is. rw is only) c.from_residual.ensures.1
