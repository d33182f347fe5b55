-- Runs in threads whose journals are to be written.
use Rattle.std.specs.Prelude.{◌≡◌, ℕ, List, Option, Result, Ok, Err, codes}
use Rattle.std.specs.Io.KnownBytes.{Keeps}
use Rattle.abt_text.specs.Text.{Text, ◌⋅◌, newline}
use Rattle.abt_scenario.specs.declared.scenario.Scenario as declared
use Rattle.abt_perform.specs.Names.{fault_line}
use Rattle.abt_perform.specs.Plans.{Tells}
use Rattle.abt_perform.specs.declared.fault.Fault.{Fault}
use Rattle.abt_perform.specs.declared.fault.Fault.TheVariants as program
use Rattle.abt_journal_text.specs.Lines.{Writes, journal_lines}
use Rattle.abt_journal_text.specs.declared.write_fault.WriteFault.{WriteFault}
use Rattle.abt_journal_text.specs.declared.write_fault.WriteFault.TheVariants as unwritten
use Rattle.abt_perform_threads.specs.Faults.{fault_of_show}
use Rattle.abt_perform_threads.specs.Performing.{MayRun, EndsRunBy}
use Rattle.abt_perform_threads.specs.Shown.{IsRanFrom, ShowsAll, ShowsUntil}
use Rattle.abt_perform_threads.specs.declared.judging.Judged.{Judged}
use Rattle.abt_perform_threads.specs.declared.keeping.KeepFault.{KeepFault}
use Rattle.abt_perform_threads.specs.declared.keeping.KeepFault.TheVariants.{Unrun, Unshown, Unwritten, Neither}
use Rattle.abt_perform_threads.specs.declared.ran.Ran.{Ran}
use Rattle.abt_perform_threads.specs.declared.showing.ShowFault.{ShowFault}

-- the lines of the net and of the journals that a run left
abbrev pub lines_left : Ran → List Text
lines_left ran = journal_lines ran.net ran.gathered.journals ran.gathered.sources.items

-- all lines of the run went out
abbrev pub IsShownWhole : (old new : Option Text) → Ran → Type 0
IsShownWhole old new ran = (judged : Judged) × ShowsAll ran judged old new

-- its lines went out up to this fault
abbrev pub IsCutOff : Fault → (old new : Option Text) → Ran → Type 0
IsCutOff fault old new ran = (reason : ShowFault) × (fault ≡ fault_of_show reason) × ShowsUntil ran reason old new

-- One run of the scenario: what became of showing it, and the outcome of writing its own net and journals.
pub record IsLeft (workers : ℕ) (scenario : declared.Scenario) (Showing : Ran → Type 0) (written : Result (Unit {0}) WriteFault) (kept_old kept_new : Option Text) : Type 0 where
  pub may_run : MayRun workers scenario
  pub ran : Ran
  pub is_ran : IsRanFrom scenario workers ran
  pub showing : Showing ran
  pub writes : Writes written (lines_left ran) kept_old kept_new

-- One run of the scenario: all its lines went out, and so did the text of its own net and journals.
abbrev pub IsKept : (workers : ℕ) → declared.Scenario → (old new kept_old kept_new : Option Text) → Type 0
IsKept workers scenario old new kept_old kept_new = IsLeft workers scenario (IsShownWhole old new) (Ok tt) kept_old kept_new

-- what went out otherwise: nothing if there is no run, and else the text of its journals too, up to a fault of its own
abbrev pub EndsKeepingBy : (workers : ℕ) → declared.Scenario → KeepFault → (old new kept_old kept_new : Option Text) → Type 0
EndsKeepingBy workers scenario (Unrun fault) old new kept_old kept_new = EndsRunBy workers scenario fault × Keeps old new × Keeps kept_old kept_new
EndsKeepingBy workers scenario (Unshown fault) old new kept_old kept_new = IsLeft workers scenario (IsCutOff fault old new) (Ok tt) kept_old kept_new
EndsKeepingBy workers scenario (Unwritten why) old new kept_old kept_new = IsLeft workers scenario (IsShownWhole old new) (Err why) kept_old kept_new
EndsKeepingBy workers scenario (Neither fault why) old new kept_old kept_new = IsLeft workers scenario (IsCutOff fault old new) (Err why) kept_old kept_new

-- how a run ends, by what became of showing it and of writing its journals
abbrev pub end_of : Result Judged ShowFault → Result (Unit {0}) WriteFault → Result (Unit {0}) KeepFault
end_of (Ok judged) (Ok done) = Ok done
end_of (Ok judged) (Err why) = Err (Unwritten why)
end_of (Err reason) (Ok done) = Err (Unshown (fault_of_show reason))
end_of (Err reason) (Err why) = Err (Neither (fault_of_show reason) why)

-- the line of it
abbrev pub unwritten_line : WriteFault → Text
unwritten_line unwritten.TooLong = fault_line program.TooLong
unwritten_line unwritten.Write = codes "fault: journals" ⋅ newline
unwritten_line unwritten.Memory = fault_line program.Memory

-- what is told: first of the run, and then of its journals
abbrev pub IsTold : KeepFault → (errors_old errors_new : Option Text) → Type 0
IsTold (Unrun fault) errors_old errors_new = Tells (fault_line fault) errors_old errors_new
IsTold (Unshown fault) errors_old errors_new = Tells (fault_line fault) errors_old errors_new
IsTold (Unwritten why) errors_old errors_new = Tells (unwritten_line why) errors_old errors_new
IsTold (Neither fault why) errors_old errors_new =
    (between : Option Text) × Tells (fault_line fault) errors_old between × Tells (unwritten_line why) between errors_new

-- A run isn't both shown and kept: why, what went out, and what was told.
pub record IsUnkept (workers : ℕ) (scenario : declared.Scenario) (old new kept_old kept_new errors_old errors_new : Option Text) : Type 0 where
  pub fault : KeepFault
  pub ends : EndsKeepingBy workers scenario fault old new kept_old kept_new
  pub told : IsTold fault errors_old errors_new
