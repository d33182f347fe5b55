-- Faults that a run hands on.
use Rattle.std.specs.Prelude.{◌<◌, List, [], ◌∷◌, Option, None, Some, option_map, Result, Ok, Err}
use Rattle.abt_journal.specs.Receipts.{Seated}
use Rattle.abt_journal.specs.declared.fault.ServeFault.{ServeFault}
use Rattle.abt_journal.specs.declared.fault.ServeFault.TheVariants as serve
use Rattle.abt_journal.specs.declared.gather_fault.GatherFault.{GatherFault}
use Rattle.abt_journal.specs.declared.gather_fault.GatherFault.TheVariants as gather
use Rattle.abt_history.specs.Sites.{SiteView}
use Rattle.abt_links.specs.declared.fault.RunFault.{RunFault}
use Rattle.abt_links.specs.declared.fault.RunFault.TheVariants.{Thread, Wound, Gather, Memory}

-- the run's fault for a worker's
abbrev pub run_fault : ServeFault → RunFault
run_fault (serve.Wound seen found) = Wound seen found
run_fault serve.Memory = Memory

-- the run's fault for one of gathering; want of memory is the run's own
abbrev pub gather_fault : GatherFault → RunFault
gather_fault gather.Memory = Memory
gather_fault (gather.Foreign port) = Gather (gather.Foreign port)
gather_fault gather.Count = Gather gather.Count
gather_fault (gather.Missing port place) = Gather (gather.Missing port place)

-- of two faults the first, if it is a Wound or the only one, and else the second
abbrev pub graver : Option ServeFault → Option ServeFault → Option ServeFault
graver None other = other
graver (Some (serve.Wound seen short)) other = Some (serve.Wound seen short)
graver (Some serve.Memory) None = Some serve.Memory
graver (Some serve.Memory) (Some other) = Some other

-- the fault of one worker
abbrev pub fault_in : {A : Type 0} → Result A ServeFault → Option ServeFault
fault_in (Ok given) = None
fault_in (Err fault) = Some fault

-- the first Wound of these, or else want of memory, if there is a fault
abbrev pub fault_among : {A : Type 0} → List (Result A ServeFault) → Option ServeFault
fault_among [] = None
fault_among (r ∷ rs) = graver (fault_in r) (fault_among rs)

-- the results of the workers without a fault
abbrev pub given_back : {A : Type 0} → List (Result A ServeFault) → List A
given_back [] = []
given_back (Ok given ∷ rs) = given ∷ given_back rs
given_back (Err fault ∷ rs) = given_back rs

-- The fault that a run tells of its workers, if there is one: that not all could be started (the operator's is the
-- last); else the first Wound, of sources, then link workers, then the operator; else want of memory.
abbrev pub fault_told : (operator : Option (Result Seated ServeFault)) → List (Result (Seated × SiteView) ServeFault) → List (Result Seated ServeFault) → Option RunFault
fault_told None sources links = Some Thread
fault_told (Some operator) sources links =
    option_map run_fault (graver (graver (fault_among sources) (fault_among links)) (fault_in operator))

-- A Wound is told only if fewer entries were found than seen.
abbrev pub IsRight : ServeFault → Type 0
IsRight (serve.Wound seen short) = short < seen
IsRight serve.Memory = Unit {0}
