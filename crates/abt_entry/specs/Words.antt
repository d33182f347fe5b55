-- The words of entries, which are those of reports (docs/FORMATS.md, "Report").
use Rattle.std.specs.Prelude.{Bool, false, if◌then◌else◌, codes, Option, None, Some}
use Rattle.std.specs.Str.{bytes_eq}
use Rattle.abt_gcra.specs.declared.verdict.Verdict.{Verdict}
use Rattle.abt_gcra.specs.declared.verdict.Verdict.TheVariants.{Conforming, TooEarly, NoRate}
use Rattle.abt_keep.specs.declared.plan.StorePlan.{StorePlan}
use Rattle.abt_keep.specs.declared.plan.StorePlan.TheVariants.{Works, FailsBefore, FailsAfter}
use Rattle.abt_ledger.specs.declared.fault.CapacityFault.{CapacityFault}
use Rattle.abt_ledger.specs.declared.fault.CapacityFault.TheVariants.{BelowSum, AboveLimit}
use Rattle.abt_model.specs.declared.outcome.Cause.{Cause}
use Rattle.abt_model.specs.declared.outcome.Cause.TheVariants.{Down, Running, NotSent, Fenced, Delay, ClockBack, Unknown, NotAsking}
use Rattle.abt_model.specs.declared.outcome.Heard.{Heard}
use Rattle.abt_model.specs.declared.outcome.Heard.TheVariants.{Raised, Refused, Ignored}
use Rattle.abt_node.specs.Names.{drop_name}
use Rattle.abt_node.specs.declared.fault.ArriveFault.{ArriveFault}
use Rattle.abt_node.specs.declared.fault.ArriveFault.TheVariants as arrive
use Rattle.abt_node.specs.declared.reply.DropCause.{DropCause}
use Rattle.abt_node.specs.declared.reply.DropCause.TheVariants as dropped
use Rattle.abt_format.specs.Names.{cause_name, verdict_name, heard_name, start_fault_name, ask_fault_name, capacity_fault_name}
use Rattle.abt_source.specs.declared.fault.AskFault.{AskFault}
use Rattle.abt_source.specs.declared.fault.AskFault.TheVariants as ask
use Rattle.abt_source.specs.declared.fault.StartFault.{StartFault}
use Rattle.abt_source.specs.declared.fault.StartFault.TheVariants as start
use Rattle.abt_text.specs.Text.{Text}

abbrev pub drop_of : Text → Option DropCause
drop_of word =
    if bytes_eq word (drop_name dropped.UnknownVc) then Some dropped.UnknownVc
    else if bytes_eq word (drop_name dropped.Stale) then Some dropped.Stale
    else if bytes_eq word (drop_name dropped.Conflict) then Some dropped.Conflict
    else if bytes_eq word (drop_name dropped.FloorAbove) then Some dropped.FloorAbove
    else None

abbrev pub verdict_of : Text → Option Verdict
verdict_of word =
    if bytes_eq word (verdict_name Conforming) then Some Conforming
    else if bytes_eq word (verdict_name TooEarly) then Some TooEarly
    else if bytes_eq word (verdict_name NoRate) then Some NoRate
    else None

abbrev pub arrive_fault_name : ArriveFault → Text
arrive_fault_name arrive.UnknownVc = codes "UnknownVc"
arrive_fault_name arrive.NotIngress = codes "NotIngress"
arrive_fault_name arrive.ClockBack = codes "ClockBack"
arrive_fault_name arrive.TimeRange = codes "TimeRange"

abbrev pub arrive_fault_of : Text → Option ArriveFault
arrive_fault_of word =
    if bytes_eq word (arrive_fault_name arrive.UnknownVc) then Some arrive.UnknownVc
    else if bytes_eq word (arrive_fault_name arrive.NotIngress) then Some arrive.NotIngress
    else if bytes_eq word (arrive_fault_name arrive.ClockBack) then Some arrive.ClockBack
    else if bytes_eq word (arrive_fault_name arrive.TimeRange) then Some arrive.TimeRange
    else None

abbrev pub capacity_fault_of : Text → Option CapacityFault
capacity_fault_of word =
    if bytes_eq word (capacity_fault_name BelowSum) then Some BelowSum
    else if bytes_eq word (capacity_fault_name AboveLimit) then Some AboveLimit
    else None

abbrev pub start_fault_of : Text → Option StartFault
start_fault_of word =
    if bytes_eq word (start_fault_name start.Keep) then Some start.Keep
    else if bytes_eq word (start_fault_name start.TimeRange) then Some start.TimeRange
    else None

abbrev pub ask_fault_of : Text → Option AskFault
ask_fault_of word =
    if bytes_eq word (ask_fault_name ask.SeqExhausted) then Some ask.SeqExhausted
    else if bytes_eq word (ask_fault_name ask.Keep) then Some ask.Keep
    else None

abbrev pub heard_of : Text → Option Heard
heard_of word =
    if bytes_eq word (heard_name Raised) then Some Raised
    else if bytes_eq word (heard_name Refused) then Some Refused
    else if bytes_eq word (heard_name Ignored) then Some Ignored
    else None

abbrev pub cause_of : Text → Option Cause
cause_of word =
    if bytes_eq word (cause_name Down) then Some Down
    else if bytes_eq word (cause_name Running) then Some Running
    else if bytes_eq word (cause_name NotSent) then Some NotSent
    else if bytes_eq word (cause_name Fenced) then Some Fenced
    else if bytes_eq word (cause_name Delay) then Some Delay
    else if bytes_eq word (cause_name ClockBack) then Some ClockBack
    else if bytes_eq word (cause_name Unknown) then Some Unknown
    else if bytes_eq word (cause_name NotAsking) then Some NotAsking
    else None

-- the plan of the store at an ask: `works`, or `before` and `after`, if it fails before or after the write
abbrev pub plan_name : StorePlan → Text
plan_name Works = codes "works"
plan_name FailsBefore = codes "before"
plan_name FailsAfter = codes "after"

-- the word of an ask that tells no more than that its write failed: whether the record was stored is left open
abbrev pub failed_name : Text
failed_name = codes "failed"

-- if that is left open, the plan is that nothing was stored
abbrev pub plan_of : Text → Option StorePlan
plan_of word =
    if bytes_eq word (plan_name Works) then Some Works
    else if bytes_eq word (plan_name FailsBefore) then Some FailsBefore
    else if bytes_eq word (plan_name FailsAfter) then Some FailsAfter
    else if bytes_eq word failed_name then Some FailsBefore
    else None

abbrev pub is_failed : Option Text → Bool
is_failed (Some word) = bytes_eq word failed_name
is_failed None = false
