-- The texts of outcomes (docs/FORMATS.md, "Report").
use Rattle.std.specs.Prelude.{codes}
use Rattle.abt_rate.specs.Code.{code_of}
use Rattle.abt_cell.specs.Message.{Terms}
use Rattle.abt_model.specs.declared.outcome.Outcome.{Outcome}
use Rattle.abt_model.specs.declared.outcome.Outcome.TheVariants.{Started, StartRefused, Asked, AskRefused, Repeated, Crashed, Emitted, EmitRefused, Arrived, Requested, Turned, Answered, Told, CapacitySet, CapacityRefused, NotEnabled}
use Rattle.abt_node.specs.Names.{drop_name}
use Rattle.abt_node.specs.declared.reply.Back.{Back}
use Rattle.abt_node.specs.declared.reply.Back.TheVariants as back
use Rattle.abt_node.specs.declared.reply.Onward.{Onward}
use Rattle.abt_node.specs.declared.reply.Onward.TheVariants as onward
use Rattle.abt_shaper.specs.declared.fault.ShapeFault.{ShapeFault}
use Rattle.abt_shaper.specs.declared.fault.ShapeFault.TheVariants.{ClockBack, TimeRange, Zero, TooSoon}
use Rattle.abt_text.specs.Text.{Text, ◌⋅◌, decimal, code_text}
use Rattle.abt_format.specs.Names.{cause_name, verdict_name, heard_name, start_fault_name, ask_fault_name, capacity_fault_name}

abbrev pub refused_text : Text → Text
refused_text name = codes "refused " ⋅ name

-- a word, and then the number of a request, its floor and its asked rate
abbrev pub request_text : Text → Terms → Text
request_text word request =
    word ⋅ codes " " ⋅ decimal request.seq ⋅ codes " " ⋅ code_text (code_of request.floor) ⋅ codes " " ⋅ code_text (code_of request.ask)

abbrev pub shape_fault_text : ShapeFault → Text
shape_fault_text ClockBack = refused_text (codes "ClockBack")
shape_fault_text TimeRange = refused_text (codes "TimeRange")
shape_fault_text Zero = refused_text (codes "Zero")
shape_fault_text (TooSoon next) = codes "refused TooSoon " ⋅ decimal next

abbrev pub onward_text : Onward → Text
onward_text onward.Pass = codes "passed"
onward_text (onward.Refuse answer) = codes "refuses"
onward_text (onward.Drop cause) = codes "dropped " ⋅ drop_name cause

abbrev pub back_text : Back → Text
back_text back.Pass = codes "passed"
back_text (back.Drop cause) = codes "dropped " ⋅ drop_name cause

abbrev pub outcome_text : Outcome → Text
outcome_text Started = codes "started"
outcome_text (StartRefused fault) = refused_text (start_fault_name fault)
outcome_text (Asked request) = request_text (codes "asked") request
outcome_text (AskRefused fault) = refused_text (ask_fault_name fault)
outcome_text (Repeated request) = request_text (codes "again") request
outcome_text Crashed = codes "crashed"
outcome_text (Emitted cell next) = codes "emitted " ⋅ decimal cell ⋅ codes " " ⋅ decimal next
outcome_text (EmitRefused fault) = shape_fault_text fault
outcome_text (Arrived verdict) = codes "arrived " ⋅ verdict_name verdict
outcome_text (Requested reply) = onward_text reply
outcome_text Turned = codes "turned"
outcome_text (Answered reply) = back_text reply
outcome_text (Told heard) = codes "told " ⋅ heard_name heard
outcome_text CapacitySet = codes "set"
outcome_text (CapacityRefused fault) = refused_text (capacity_fault_name fault)
outcome_text (NotEnabled cause) = codes "not-enabled " ⋅ cause_name cause
