-- What can be woven has want of memory as its only fault.
use Rattle.std.proofs.Common.{◌≡◌, refl, Result, Ok, Err, IfErr}
use Rattle.abt_net.specs.Topology.{Topology}
use Rattle.abt_weave.specs.Faults.{SaysNoneIsWoven}
use Rattle.abt_weave.specs.Stuck.{RunJournals}
use Rattle.abt_weave.specs.declared.fault.WeaveFault.{WeaveFault}
use Rattle.abt_weave.specs.declared.fault.WeaveFault.TheVariants.{Mismatch, NoOrder, Memory}
use Rattle.abt_history.specs.Ended.{CanBeWoven}

pub only_memory : (net : Topology) (journals : RunJournals) (fault : WeaveFault) → CanBeWoven net journals.ports journals.sources → SaysNoneIsWoven net journals fault → fault ≡ Memory
only_memory net journals (Mismatch actor place) woven none = absurd (none woven.0 woven.1 woven.2)
only_memory net journals (NoOrder stuck) woven none = absurd (none woven.0 woven.1 woven.2)
only_memory net journals Memory woven none = refl

pub only_memory_of : {A : Type 0} (net : Topology) (journals : RunJournals) (result : Result A WeaveFault) → CanBeWoven net journals.ports journals.sources → IfErr result (SaysNoneIsWoven net journals) → IfErr result (λ fault. fault ≡ Memory)
only_memory_of {A} net journals (Ok done) woven none = tt
only_memory_of {A} net journals (Err fault) woven none = only_memory net journals fault woven none
