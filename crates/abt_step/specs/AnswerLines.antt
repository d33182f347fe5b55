-- Answers in words (docs/FORMATS.md, "Events line by line").
use Rattle.std.specs.Prelude.{ℕ, [], codes, Option, None, Some}
use Rattle.abt_format.specs.Report.{outcome_line}
use Rattle.abt_model.specs.declared.outcome.Outcome.{Outcome}
use Rattle.abt_text.specs.Text.{Text, ◌⋅◌, newline}
use Rattle.abt_step.specs.Asked.{fault_name}
use Rattle.abt_step.specs.PossibleWords.{possible_line}
use Rattle.abt_step.specs.StateWords.{state_line}
use Rattle.abt_step.specs.declared.asked.AskedFault.{AskedFault}
use Rattle.abt_step.specs.declared.net_state.NetState.{NetState}
use Rattle.abt_step.specs.declared.possible.Possible.{Possible}
use Rattle.abt_step.specs.declared.shown.Shown.{Shown}

-- the line of the state, if it is wanted, and that of what can happen next
abbrev pub state_shown : Option NetState → Text
state_shown None = []
state_shown (Some state) = state_line state

abbrev pub possible_shown : Option Possible → Text
possible_shown None = []
possible_shown (Some possible) = possible_line possible

abbrev pub shown_lines : Shown → Text
shown_lines shown = state_shown shown.state ⋅ possible_shown shown.possible

-- an event of a number, and what is shown behind it
abbrev pub event_lines : ℕ → Outcome → Shown → Text
event_lines number outcome shown = outcome_line number outcome ⋅ shown_lines shown

abbrev pub reset_lines : Shown → Text
reset_lines shown = codes "reset\n" ⋅ shown_lines shown

abbrev pub fault_line : AskedFault → Text
fault_line fault = codes "fault " ⋅ fault_name fault ⋅ newline
