-- The names that reports print (docs/FORMATS.md, "Report").
use Rattle.std.specs.Prelude.{codes}
use Rattle.abt_gcra.specs.declared.verdict.Verdict.{Verdict}
use Rattle.abt_gcra.specs.declared.verdict.Verdict.TheVariants.{Conforming, TooEarly, NoRate}
use Rattle.abt_model.specs.declared.outcome.Cause.{Cause}
use Rattle.abt_model.specs.declared.outcome.Cause.TheVariants.{Down, Running, NotSent, Fenced, Delay, ClockBack, Unknown, NotAsking}
use Rattle.abt_model.specs.declared.outcome.Heard.{Heard}
use Rattle.abt_model.specs.declared.outcome.Heard.TheVariants.{Raised, Refused, Ignored}
use Rattle.abt_ledger.specs.declared.fault.CapacityFault.{CapacityFault}
use Rattle.abt_ledger.specs.declared.fault.CapacityFault.TheVariants.{BelowSum, AboveLimit}
use Rattle.abt_source.specs.declared.fault.AskFault.{AskFault}
use Rattle.abt_source.specs.declared.fault.AskFault.TheVariants as ask_fault
use Rattle.abt_source.specs.declared.fault.StartFault.{StartFault}
use Rattle.abt_source.specs.declared.fault.StartFault.TheVariants as start_fault
use Rattle.abt_text.specs.Text.{Text}

abbrev pub cause_name : Cause → Text
cause_name Down = codes "Down"
cause_name Running = codes "Running"
cause_name NotSent = codes "NotSent"
cause_name Fenced = codes "Fenced"
cause_name Delay = codes "Delay"
cause_name ClockBack = codes "ClockBack"
cause_name Unknown = codes "Unknown"
cause_name NotAsking = codes "NotAsking"

abbrev pub verdict_name : Verdict → Text
verdict_name Conforming = codes "Conforming"
verdict_name TooEarly = codes "TooEarly"
verdict_name NoRate = codes "NoRate"

abbrev pub heard_name : Heard → Text
heard_name Raised = codes "Raised"
heard_name Refused = codes "Refused"
heard_name Ignored = codes "Ignored"

abbrev pub start_fault_name : StartFault → Text
start_fault_name start_fault.Keep = codes "Keep"
start_fault_name start_fault.TimeRange = codes "TimeRange"

abbrev pub ask_fault_name : AskFault → Text
ask_fault_name ask_fault.SeqExhausted = codes "SeqExhausted"
ask_fault_name ask_fault.Keep = codes "Keep"

abbrev pub capacity_fault_name : CapacityFault → Text
capacity_fault_name BelowSum = codes "BelowSum"
capacity_fault_name AboveLimit = codes "AboveLimit"
