-- What is kept is of the run that was shown.
use Rattle.std.proofs.KnownBytes.{Keeps-refl}
use Rattle.abt_perform_threads.proofs.Counts.{sources_count}
use Rattle.abt_perform_threads.proofs.Ends.{ends_run, may_run_done, IsExact}
use Rattle.abt_perform_threads.proofs.Kept.{ends_so}
use Rattle.abt_perform_threads.proofs.keeping.keep_all.Goals as goal

pub returns-in-Err-clause-err : goal.returns-in-Err-clause-err
returns-in-Err-clause-err g c =
    let scenario = c.args.unrun in
    let exact : IsExact c.args.workers scenario c.show_run.result = record { by_workers = c.show_run.ensures.workers; by_scripts = c.show_run.ensures.scripts; by_operator = c.show_run.ensures.operator } in
    let ends = ends_run c.args.workers scenario c.in-Err.fault (rw c.in-Err.is at exact) in
    (rw c.fault_of_run.ensures ends, c.in-Err.ensures.silent, Keeps-refl _)

pub keep-written-requires-clause-sources : goal.keep-written-requires-clause-sources
keep-written-requires-clause-sources g c =
    let from = c.in-Ok.ensures.ran in
    let left = c.in-Ok.shown.ran.gathered in
    let scenario = c.args.unrun in
    rw from.net_is (sources_count 0 scenario.net.conns scenario.scripts left.journals left.sources.items from.is_run.sources)

pub returns-clause-ok : goal.returns-clause-ok
returns-clause-ok g c =
    let scenario = c.args.unrun in
    let shown = c.in-Ok.shown in
    let exact : IsExact c.args.workers scenario c.show_run.result = record { by_workers = c.show_run.ensures.workers; by_scripts = c.show_run.ensures.scripts; by_operator = c.show_run.ensures.operator } in
    let may = may_run_done c.args.workers scenario shown (rw c.in-Ok.is at exact) in
    rw c.end_of.ensures (ends_so c.args.workers scenario shown.ran shown.judged c.keep-written.result _ _ _ _ may c.in-Ok.ensures.ran c.in-Ok.ensures.shown c.keep-written.ensures).0

pub returns-clause-err : goal.returns-clause-err
returns-clause-err g c =
    let scenario = c.args.unrun in
    let shown = c.in-Ok.shown in
    let exact : IsExact c.args.workers scenario c.show_run.result = record { by_workers = c.show_run.ensures.workers; by_scripts = c.show_run.ensures.scripts; by_operator = c.show_run.ensures.operator } in
    let may = may_run_done c.args.workers scenario shown (rw c.in-Ok.is at exact) in
    rw c.end_of.ensures (ends_so c.args.workers scenario shown.ran shown.judged c.keep-written.result _ _ _ _ may c.in-Ok.ensures.ran c.in-Ok.ensures.shown c.keep-written.ensures).1
