-- Runs that were shown.
use Rattle.std.proofs.Common.{ℕ, List, Option}
use Rattle.abt_perform_threads.specs.Performing.{IsRunOf, IsShown}
use Rattle.abt_perform_threads.specs.declared.performing.JudgedRun.{JudgedRun}

-- of a run of a scenario all lines went out
pub shown_by_run : (workers : ℕ) (run : JudgedRun) (left old new : Option (List ℕ)) → IsRunOf workers run left old new → IsShown workers left old new
shown_by_run workers run left old new is = record {
  scenario = is.scenario;
  read = is.read;
  may_run = is.may_run;
  ran = run.ran;
  is_ran = is.is_ran;
  judged = run.judged;
  shows = is.shows;
}
