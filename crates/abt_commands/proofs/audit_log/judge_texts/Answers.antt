-- A file isn't opened, and is told by its name.
use Rattle.std.proofs.Common.{inl, inr}
use Rattle.std.proofs.KnownBytes.{Keeps-refl}
use Rattle.abt_commands.proofs.audit_log.judge_texts.Goals as goal

pub returns-in-Err-clause-err : goal.returns-in-Err-clause-err
returns-in-Err-clause-err g c = λ _. inr (inl (record {
  name = c.in-Err.unopened.name.now;
  is_named = rw c.as_slice-names.ensures.value at c.in-Err.ensures.err;
  silent = Keeps-refl _;
  told = c.tell.ensures.told;
}))
