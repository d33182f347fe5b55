-- What a run's result says of workers and scripts.
use Rattle.std.proofs.Common.{◌≡◌, ℕ, ◌↔◌, Result, Ok, Err, IsErrOf, refl}
use Rattle.abt_scenario.specs.declared.scenario.Scenario.{Scenario}
use Rattle.abt_links.specs.Runs.{ScriptsFit}
use Rattle.abt_links.specs.Operations.{AreForPorts}
use Rattle.abt_links.specs.declared.fault.RunFault.{RunFault}
use Rattle.abt_links.specs.declared.fault.RunFault.TheVariants as run
use Rattle.abt_perform.specs.declared.fault.Fault.TheVariants.{Code, Hex, Length, Rm, Full, Read, TooLong, NotUtf8, Scenario as Text, Workers, Scripts, Operator, Thread, Wound, Gather, NoOrder, Mismatch, Write, Memory}
use Rattle.abt_perform_threads.specs.Faults.{fault_of_run}
use Rattle.abt_rate.specs.Limits.{AreWorkers}
use Rattle.abt_perform_threads.specs.Performing.{MayRun, EndsRunBy}

-- the result is refused for workers, for scripts or for the operator's list, exactly where these don't fit
pub record IsExact {T : Type 0} (workers : ℕ) (scenario : Scenario) (result : Result T RunFault) : Type 0 where
  pub by_workers : IsErrOf result run.Workers ↔ ¬ AreWorkers workers
  pub by_scripts : IsErrOf result run.Scripts ↔ (AreWorkers workers × ¬ ScriptsFit scenario.net.conns scenario.scripts)
  pub by_operator : IsErrOf result run.Operator ↔ (AreWorkers workers × ScriptsFit scenario.net.conns scenario.scripts × ¬ AreForPorts scenario.net scenario.operator)

pub may_run : {T : Type 0} (workers : ℕ) (scenario : Scenario) (result : Result T RunFault) → IsExact workers scenario result
    → ¬ IsErrOf result run.Workers → ¬ IsErrOf result run.Scripts → ¬ IsErrOf result run.Operator → MayRun workers scenario
may_run workers scenario result exact no_workers no_scripts no_operator Workers unfit = no_workers (exact.by_workers.1 unfit)
may_run workers scenario result exact no_workers no_scripts no_operator Scripts unfit = no_scripts (exact.by_scripts.1 unfit)
may_run workers scenario result exact no_workers no_scripts no_operator Operator unfit = no_operator (exact.by_operator.1 unfit)
may_run workers scenario result exact no_workers no_scripts no_operator Code unfit = unfit
may_run workers scenario result exact no_workers no_scripts no_operator Hex unfit = unfit
may_run workers scenario result exact no_workers no_scripts no_operator Length unfit = unfit
may_run workers scenario result exact no_workers no_scripts no_operator (Rm fault) unfit = unfit
may_run workers scenario result exact no_workers no_scripts no_operator Full unfit = unfit
may_run workers scenario result exact no_workers no_scripts no_operator Read unfit = unfit
may_run workers scenario result exact no_workers no_scripts no_operator TooLong unfit = unfit
may_run workers scenario result exact no_workers no_scripts no_operator NotUtf8 unfit = unfit
may_run workers scenario result exact no_workers no_scripts no_operator (Text fault) unfit = unfit
may_run workers scenario result exact no_workers no_scripts no_operator Thread unfit = unfit
may_run workers scenario result exact no_workers no_scripts no_operator Wound unfit = unfit
may_run workers scenario result exact no_workers no_scripts no_operator Gather unfit = unfit
may_run workers scenario result exact no_workers no_scripts no_operator NoOrder unfit = unfit
may_run workers scenario result exact no_workers no_scripts no_operator Mismatch unfit = unfit
may_run workers scenario result exact no_workers no_scripts no_operator Write unfit = unfit
may_run workers scenario result exact no_workers no_scripts no_operator Memory unfit = unfit

-- a result that is no such refusal
other_than : {T : Type 0} (workers : ℕ) (scenario : Scenario) (fault : RunFault) → IsExact {T = T} workers scenario (Err fault)
    → ¬ (fault ≡ run.Workers) → ¬ (fault ≡ run.Scripts) → ¬ (fault ≡ run.Operator) → MayRun workers scenario
other_than workers scenario fault exact no_workers no_scripts no_operator =
    may_run workers scenario (Err fault) exact (λ e. no_workers (let is : Err fault ≡ Err run.Workers = e in cc)) (λ e. no_scripts (let is : Err fault ≡ Err run.Scripts = e in cc)) (λ e. no_operator (let is : Err fault ≡ Err run.Operator = e in cc))

pub may_run_done : {T : Type 0} (workers : ℕ) (scenario : Scenario) (ran : T) → IsExact workers scenario (Ok ran) → MayRun workers scenario
may_run_done workers scenario ran exact = may_run workers scenario (Ok ran) exact (λ e. cc) (λ e. cc) (λ e. cc)

pub ends_run : {T : Type 0} (workers : ℕ) (scenario : Scenario) (fault : RunFault) → IsExact {T = T} workers scenario (Err fault)
    → EndsRunBy workers scenario (fault_of_run fault)
ends_run workers scenario run.Workers exact = exact.by_workers.0 refl
ends_run workers scenario run.Scripts exact = exact.by_scripts.0 refl
ends_run workers scenario run.Operator exact = exact.by_operator.0 refl
ends_run workers scenario run.Thread exact = other_than workers scenario run.Thread exact (λ e. cc) (λ e. cc) (λ e. cc)
ends_run workers scenario (run.Wound seen found) exact = other_than workers scenario (run.Wound seen found) exact (λ e. cc) (λ e. cc) (λ e. cc)
ends_run workers scenario (run.Gather fault) exact = other_than workers scenario (run.Gather fault) exact (λ e. cc) (λ e. cc) (λ e. cc)
ends_run workers scenario run.Memory exact = other_than workers scenario run.Memory exact (λ e. cc) (λ e. cc) (λ e. cc)
