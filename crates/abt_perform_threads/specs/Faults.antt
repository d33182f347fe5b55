-- The program's faults for those of a run, and of showing it.
use Rattle.abt_perform.specs.declared.fault.Fault.{Fault}
use Rattle.abt_perform.specs.declared.fault.Fault.TheVariants.{Workers, Scripts, Operator, Thread, Wound, Gather, NoOrder, Mismatch, Write, Memory}
use Rattle.abt_links.specs.declared.fault.RunFault.{RunFault}
use Rattle.abt_links.specs.declared.fault.RunFault.TheVariants as run
use Rattle.abt_weave.specs.declared.fault.WeaveFault.{WeaveFault}
use Rattle.abt_weave.specs.declared.fault.WeaveFault.TheVariants as weave
use Rattle.abt_perform_threads.specs.declared.showing.ShowFault.{ShowFault}
use Rattle.abt_perform_threads.specs.declared.showing.ShowFault.TheVariants as show

abbrev pub fault_of_run : RunFault → Fault
fault_of_run run.Workers = Workers
fault_of_run run.Scripts = Scripts
fault_of_run run.Operator = Operator
fault_of_run run.Thread = Thread
fault_of_run (run.Wound seen found) = Wound
fault_of_run (run.Gather fault) = Gather
fault_of_run run.Memory = Memory

abbrev pub fault_of_weave : WeaveFault → Fault
fault_of_weave (weave.Mismatch actor place) = Mismatch
fault_of_weave (weave.NoOrder stuck) = NoOrder
fault_of_weave weave.Memory = Memory

abbrev pub fault_of_show : ShowFault → Fault
fault_of_show (show.Weave reason) = fault_of_weave reason
fault_of_show show.Trace = Memory
fault_of_show show.Write = Write
