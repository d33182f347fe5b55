-- What is kept is of the run that was shown.
use Rattle.std.proofs.Common.{ℕ, Option, Result, Ok, Err, IfErr, OnOk, MatchResult, refl}
use Rattle.abt_text.specs.Text.{Text}
use Rattle.abt_scenario.specs.declared.scenario.Scenario.{Scenario}
use Rattle.abt_journal_text.specs.Lines.{Writes}
use Rattle.abt_journal_text.specs.declared.write_fault.WriteFault.{WriteFault}
use Rattle.abt_perform_threads.specs.Kept.{EndsKeepingBy, IsKept, end_of, lines_left}
use Rattle.abt_perform_threads.specs.Performing.{MayRun}
use Rattle.abt_perform_threads.specs.Shown.{IsRanFrom, ShowsAll, ShowsUntil}
use Rattle.abt_perform_threads.specs.declared.judging.Judged.{Judged}
use Rattle.abt_perform_threads.specs.declared.ran.Ran.{Ran}
use Rattle.abt_perform_threads.specs.declared.showing.ShowFault.{ShowFault}

pub ends_so : (workers : ℕ) (scenario : Scenario) (ran : Ran) (judged : Result Judged ShowFault) (written : Result (Unit {0}) WriteFault) (old new kept_old kept_new : Option Text)
    → MayRun workers scenario → IsRanFrom scenario workers ran → MatchResult judged (λ is. ShowsAll ran is old new) (λ fault. ShowsUntil ran fault old new)
    → Writes written (lines_left ran) kept_old kept_new
    → OnOk (end_of judged written) (IsKept workers scenario old new kept_old kept_new)
    × IfErr (end_of judged written) (λ fault. EndsKeepingBy workers scenario fault old new kept_old kept_new)
ends_so workers scenario ran (Ok judged) (Ok done) old new kept_old kept_new may is shows writes =
    (record { may_run = may; ran = ran; is_ran = is; showing = (judged, shows); writes = writes }, tt)
ends_so workers scenario ran (Ok judged) (Err why) old new kept_old kept_new may is shows writes =
    (tt, record { may_run = may; ran = ran; is_ran = is; showing = (judged, shows); writes = writes })
ends_so workers scenario ran (Err reason) (Ok done) old new kept_old kept_new may is shows writes =
    (tt, record { may_run = may; ran = ran; is_ran = is; showing = (reason, refl, shows); writes = writes })
ends_so workers scenario ran (Err reason) (Err why) old new kept_old kept_new may is shows writes =
    (tt, record { may_run = may; ran = ran; is_ran = is; showing = (reason, refl, shows); writes = writes })
