-- What a source says (docs/LIVE.md, "A source").
use Rattle.std.specs.Prelude.{ℕ, codes}
use Rattle.abt_cell.specs.declared.message.Rm.TheVariants as rm
use Rattle.abt_shaper.specs.declared.fault.ShapeFault.{ShapeFault}
use Rattle.abt_shaper.specs.declared.fault.ShapeFault.TheVariants as shape
use Rattle.abt_model.specs.declared.outcome.Outcome.{Outcome}
use Rattle.abt_model.specs.declared.outcome.Outcome.TheVariants.{Started, StartRefused, Asked, AskRefused, Repeated, Emitted, EmitRefused, Told, NotEnabled}
use Rattle.abt_cell.specs.Message.{Terms}
use Rattle.abt_format.specs.Names.{cause_name, start_fault_name, ask_fault_name}
use Rattle.abt_perform.specs.CellText.{message_hex}
use Rattle.abt_text.specs.Text.{Text, ◌⋅◌, newline, decimal}

-- `rm HEX`
abbrev pub request_text : Terms → Text
request_text request = codes "rm " ⋅ message_hex (rm.Request request) ⋅ newline

-- `cell N NOW NEXT`
abbrev pub cell_text : (cell now next : ℕ) → Text
cell_text cell now next = codes "cell " ⋅ decimal cell ⋅ codes " " ⋅ decimal now ⋅ codes " " ⋅ decimal next ⋅ newline

-- a fault by its name
abbrev pub refusal_text : Text → Text
refusal_text name = codes "fault " ⋅ name ⋅ newline

abbrev pub unsent_text : ShapeFault → Text
unsent_text shape.ClockBack = codes "fault ClockBack\n"
unsent_text shape.TimeRange = codes "fault TimeRange\n"
unsent_text shape.Zero = codes "fault Zero\n"
unsent_text (shape.TooSoon next) = codes "toosoon " ⋅ decimal next ⋅ newline

-- what is said of an outcome, at this moment of the source's clock
abbrev pub outcome_said : (clock : ℕ) → Outcome → Text
outcome_said clock Started = codes "started\n"
outcome_said clock (StartRefused fault) = refusal_text (start_fault_name fault)
outcome_said clock (Asked request) = request_text request
outcome_said clock (AskRefused fault) = refusal_text (ask_fault_name fault)
outcome_said clock (Repeated request) = request_text request
outcome_said clock (Emitted cell next) = cell_text cell clock next
outcome_said clock (EmitRefused fault) = unsent_text fault
outcome_said clock (Told heard) = codes "heard\n"
outcome_said clock (NotEnabled cause) = refusal_text (cause_name cause)
outcome_said clock elsewhere = codes "nothing\n"
