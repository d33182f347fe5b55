-- The run that was shown is the one whose events are told.
use Rattle.std.proofs.Common.{inr}
use Rattle.abt_commands.proofs.threads_events.run_text.Goals as goal

pub returns-in-Ok-clause-ok : goal.returns-in-Ok-clause-ok
returns-in-Ok-clause-ok g c = λ done. record {
  run = c.in-Ok.run';
  is_run = c.in-Ok.ensures.shown;
  told = c.tell_judged.ensures.ok done;
}

pub returns-in-Ok-clause-err : goal.returns-in-Ok-clause-err
returns-in-Ok-clause-err g c = λ failed. inr (record {
  run = c.in-Ok.run';
  is_run = c.in-Ok.ensures.shown;
  told = c.tell_judged.ensures.err failed;
})
