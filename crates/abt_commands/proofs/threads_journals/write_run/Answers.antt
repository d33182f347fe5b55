-- What becomes of an output follows from why the run isn't both shown and kept.
use Rattle.std.proofs.Common.{inl, inr}
use Rattle.abt_commands.proofs.threads_journals.write_run.Goals as goal

pub returns-in-Err-Unshown-clause-err : goal.returns-in-Err-Unshown-clause-err
returns-in-Err-Unshown-clause-err g c = λ _. inr (inl (record {
  calls = c.keep_all.new.journals.log.calls;
  fault = c.in-Err-Unshown.fault;
  left = rw c.in-Err-Unshown.field-0-is at c.in-Err-Unshown.ensures.err;
  between = _;
  told = c.tell_fault.ensures;
  named = c.is_named-in-Err-Unshown.ensures.either;
}))
