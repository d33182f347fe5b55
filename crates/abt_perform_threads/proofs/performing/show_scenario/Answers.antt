-- What a run shows, or why there is none, is of the scenario that was read.
use Rattle.std.proofs.Common.{inl, inr}
use Rattle.abt_perform_threads.proofs.Ends.{ends_run, may_run_done, IsExact}
use Rattle.abt_perform_threads.proofs.performing.show_scenario.Goals as goal

pub returns-in-Err-clause-err : goal.returns-in-Err-clause-err
returns-in-Err-clause-err g c =
    let scenario = c.in_ok-unrun.unrun in
    let exact : IsExact c.args.workers scenario c.show_run.result = record { by_workers = c.show_run.ensures.workers; by_scripts = c.show_run.ensures.scripts; by_operator = c.show_run.ensures.operator } in
    let ends = ends_run c.args.workers scenario c.in-Err.fault (rw c.in-Err.is at exact) in
    inr (record { scenario = scenario; read = c.in_ok-unrun.ensures.ok; ends = inl (rw c.fault_of_run.ensures ends, c.in-Err.ensures.silent) })

pub returns-in-Ok-judged-clause-shown : goal.returns-in-Ok-judged-clause-shown
returns-in-Ok-judged-clause-shown g c =
    let scenario = c.in_ok-unrun.unrun in
    let exact : IsExact c.args.workers scenario c.show_run.result = record { by_workers = c.show_run.ensures.workers; by_scripts = c.show_run.ensures.scripts; by_operator = c.show_run.ensures.operator } in
    record {
      scenario = scenario;
      read = c.in_ok-unrun.ensures.ok;
      may_run = may_run_done c.args.workers scenario c.in-Ok.shown (rw c.in-Ok.is at exact);
      is_ran = c.in-Ok.ensures.ran;
      shows = rw c.in-Ok-judged.is at c.in-Ok.ensures.shown;
    }

pub returns-in-Err-judged-clause-err : goal.returns-in-Err-judged-clause-err
returns-in-Err-judged-clause-err g c =
    let scenario = c.in_ok-unrun.unrun in
    let exact : IsExact c.args.workers scenario c.show_run.result = record { by_workers = c.show_run.ensures.workers; by_scripts = c.show_run.ensures.scripts; by_operator = c.show_run.ensures.operator } in
    inr (record {
      scenario = scenario;
      read = c.in_ok-unrun.ensures.ok;
      ends = inr (record {
        may_run = may_run_done c.args.workers scenario c.in-Ok.shown (rw c.in-Ok.is at exact);
        ran = c.in-Ok.shown.ran;
        is_ran = c.in-Ok.ensures.ran;
        reason = c.in-Err-judged.fault;
        named = c.fault_of_show.ensures;
        until = rw c.in-Err-judged.is at c.in-Ok.ensures.shown;
      });
    })
