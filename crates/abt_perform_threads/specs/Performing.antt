-- The output of a plan for threads.
use Rattle.std.specs.Prelude.{◌≡◌, ℕ, ◌⊎◌, Option, IfSome, Ok}
use Rattle.std.specs.Io.KnownBytes.{Keeps}
use Rattle.abt_text.specs.Text.{Text}
use Rattle.abt_scenario.specs.Engine.{Explains}
use Rattle.abt_scenario.specs.Scenarios.{Reads}
use Rattle.abt_scenario.specs.declared.engine.EngineFault.{EngineFault}
use Rattle.abt_scenario.specs.declared.scenario.Scenario as declared
use Rattle.abt_links.specs.Runs.{ScriptsFit}
use Rattle.abt_links.specs.Operations.{AreForPorts}
use Rattle.abt_perform.specs.Names.{fault_line, fault_of_engine}
use Rattle.abt_perform.specs.Plans.{Tells}
use Rattle.abt_perform.specs.declared.plan.Plan.{Plan}
use Rattle.abt_perform.specs.declared.plan.Plan.TheVariants.{Threads}
use Rattle.abt_perform.specs.declared.fault.Fault.{Fault}
use Rattle.abt_perform.specs.declared.fault.Fault.TheVariants.{Workers, Scripts, Operator, Thread, Wound, Gather, Memory}
use Rattle.abt_perform_threads.specs.Faults.{fault_of_show}
use Rattle.abt_perform_threads.specs.Shown.{IsRanFrom, ShowsAll, ShowsUntil}
use Rattle.abt_rate.specs.Limits.{AreWorkers}
use Rattle.abt_perform_threads.specs.declared.judging.Judged.{Judged}
use Rattle.abt_perform_threads.specs.declared.performing.JudgedRun.{JudgedRun}
use Rattle.abt_perform_threads.specs.declared.ran.Ran.{Ran}
use Rattle.abt_perform_threads.specs.declared.showing.ShowFault.{ShowFault}

-- how many link workers a plan has
abbrev pub workers_of : Plan → ℕ
workers_of (Threads file workers) = workers
workers_of other = 0

-- what keeps a scenario from running: the first fault that applies, of these three
abbrev pub IsUnfit : (workers : ℕ) → declared.Scenario → Fault → Type 0
IsUnfit workers scenario Workers = ¬ AreWorkers workers
IsUnfit workers scenario Scripts = AreWorkers workers × ¬ ScriptsFit scenario.net.conns scenario.scripts
IsUnfit workers scenario Operator = AreWorkers workers × ScriptsFit scenario.net.conns scenario.scripts × ¬ AreForPorts scenario.net scenario.operator
IsUnfit workers scenario other = ⊥

-- No reason makes it unfit.
abbrev pub MayRun : (workers : ℕ) → declared.Scenario → Type 0
MayRun workers scenario = (reason : Fault) → ¬ IsUnfit workers scenario reason

-- This is a run of the scenario that is a reader's text, and what it is judged to be: all lines are of these.
pub record IsRunOf (workers : ℕ) (run : JudgedRun) (left old new : Option Text) : Type 0 where
  pub scenario : declared.Scenario
  pub read : IfSome left (λ text. Reads text (Ok scenario))
  pub may_run : MayRun workers scenario
  pub is_ran : IsRanFrom scenario workers run.ran
  pub shows : ShowsAll run.ran run.judged old new

-- One run of the scenario that is a reader's text, and what it is judged to be: all lines are of these.
pub record IsShown (workers : ℕ) (left old new : Option Text) : Type 0 where
  pub scenario : declared.Scenario
  pub read : IfSome left (λ text. Reads text (Ok scenario))
  pub may_run : MayRun workers scenario
  pub ran : Ran
  pub is_ran : IsRanFrom scenario workers ran
  pub judged : Judged
  pub shows : ShowsAll ran judged old new

-- why there is no run
abbrev pub EndsRunBy : (workers : ℕ) → declared.Scenario → Fault → Type 0
EndsRunBy workers scenario Workers = IsUnfit workers scenario Workers
EndsRunBy workers scenario Scripts = IsUnfit workers scenario Scripts
EndsRunBy workers scenario Operator = IsUnfit workers scenario Operator
EndsRunBy workers scenario Thread = MayRun workers scenario
EndsRunBy workers scenario Wound = MayRun workers scenario
EndsRunBy workers scenario Gather = MayRun workers scenario
EndsRunBy workers scenario Memory = MayRun workers scenario
EndsRunBy workers scenario other = ⊥

-- One run, which isn't shown whole: all that the fault says, and the lines that went out before it, are of this one.
pub record IsShownUntil (workers : ℕ) (scenario : declared.Scenario) (fault : Fault) (old new : Option Text) : Type 0 where
  pub may_run : MayRun workers scenario
  pub ran : Ran
  pub is_ran : IsRanFrom scenario workers ran
  pub reason : ShowFault
  pub named : fault ≡ fault_of_show reason
  pub until : ShowsUntil ran reason old new

pub record EndsRunningBy (workers : ℕ) (fault : Fault) (left old new : Option Text) : Type 0 where
  pub scenario : declared.Scenario
  pub read : IfSome left (λ text. Reads text (Ok scenario))
  pub ends : (EndsRunBy workers scenario fault × Keeps old new) ⊎ IsShownUntil workers scenario fault old new

-- what a fault says of a text in which no scenario was found
pub record EndsReadingBy (fault : Fault) (left old new : Option Text) : Type 0 where
  pub engine_fault : EngineFault
  pub named : fault ≡ fault_of_engine engine_fault
  pub explains : IfSome left (Explains engine_fault)
  pub silent : Keeps old new

abbrev pub EndsBy : (workers : ℕ) → Fault → (left old new : Option Text) → Type 0
EndsBy workers fault left old new = EndsReadingBy fault left old new ⊎ EndsRunningBy workers fault left old new

-- A run that isn't shown: why, what went out before, and what was told.
pub record IsRefused (workers : ℕ) (left old new errors_old errors_new : Option Text) : Type 0 where
  pub fault : Fault
  pub printed : EndsBy workers fault left old new
  pub told : Tells (fault_line fault) errors_old errors_new
