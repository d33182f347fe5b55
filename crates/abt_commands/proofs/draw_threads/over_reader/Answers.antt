-- The run is the one whose events are written.
use Rattle.abt_commands.proofs.draw_threads.over_reader.Goals as goal

pub returns-in-Ok : goal.returns-in-Ok
returns-in-Ok g c = record {
  status_is = c.keep_run.ensures.status;
  takes = c.run_of.ensures.reads;
  done = λ done. record {
    run = c.in-Ok.run';
    is_run = c.in-Ok.ensures.ok;
    saved = c.keep_run.ensures.ok done;
    printed = c.keep_run.ensures.printed;
    quiet = c.keep_run.ensures.quiet done;
  };
  refused = λ _. c.keep_run.ensures.printed;
}
