-- The faults of a policer as those of an arrival.
use Rattle.abt_gcra.specs.declared.fault.GcraFault.{GcraFault}
use Rattle.abt_gcra.specs.declared.fault.GcraFault.TheVariants.{ClockBack, TimeRange}
use Rattle.abt_node.specs.declared.fault.ArriveFault.{ArriveFault}
use Rattle.abt_node.specs.declared.fault.ArriveFault.TheVariants as arrive

abbrev pub fault_of : GcraFault → ArriveFault
fault_of ClockBack = arrive.ClockBack
fault_of TimeRange = arrive.TimeRange
