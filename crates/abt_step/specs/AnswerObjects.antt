-- Answers as objects (docs/FORMATS.md, "Events line by line").
use Rattle.std.specs.Prelude.{ℕ, Bool, true, List, [], ◌∷◌, ◌++◌, codes, Option, None, Some}
use Rattle.json.specs.Token.{Token, boolean, key}
use Rattle.abt_entry.specs.ObjectMembers.{text_member}
use Rattle.abt_json.specs.Explained.{explained_members}
use Rattle.abt_json.specs.Kinds.{kind_object}
use Rattle.abt_model.specs.declared.event.Event.{Event}
use Rattle.abt_model.specs.declared.outcome.Outcome.{Outcome}
use Rattle.abt_reason.specs.declared.grounds.Grounds.{Grounds}
use Rattle.abt_text.specs.Text.{Text}
use Rattle.abt_step.specs.Asked.{fault_name}
use Rattle.abt_step.specs.PossibleMembers.{possible_members}
use Rattle.abt_step.specs.ReasonNumbers.{why_member}
use Rattle.abt_step.specs.StateMembers.{state_members}
use Rattle.abt_step.specs.declared.asked.AskedFault.{AskedFault}
use Rattle.abt_step.specs.declared.net_state.NetState.{NetState}
use Rattle.abt_step.specs.declared.possible.Possible.{Possible}
use Rattle.abt_step.specs.declared.shown.Shown.{Shown}

-- the state, if it is wanted, and what can happen next
abbrev pub state_shown : Option NetState → List Token
state_shown None = []
state_shown (Some state) = state_members state

abbrev pub possible_shown : Option Possible → List Token
possible_shown None = []
possible_shown (Some possible) = possible_members possible

abbrev pub shown_members : Shown → List Token
shown_members shown = state_shown shown.state ++ possible_shown shown.possible

-- an event of a number: what an explanation says of it, and the numbers of its reason
abbrev pub event_members : ℕ → Event → Grounds → Outcome → List Token
event_members number event grounds outcome =
    explained_members number None event grounds outcome ++ why_member grounds.numbers outcome

abbrev pub event_object : ℕ → Event → Grounds → Outcome → Shown → Text
event_object number event grounds outcome shown =
    kind_object (codes "event") (event_members number event grounds outcome ++ shown_members shown)

abbrev pub reset_object : Shown → Text
reset_object shown = kind_object (codes "reset") (shown_members shown)

abbrev pub safe_member : Bool → List Token
safe_member safe = key (codes "safe") ∷ boolean safe ∷ []

abbrev pub state_object : NetState → Text
state_object state = kind_object (codes "state") (state_members state)

abbrev pub report_object : NetState → Text
report_object state = kind_object (codes "report") (state_members state ++ safe_member true)

abbrev pub possible_object : Possible → Text
possible_object possible = kind_object (codes "possible") (possible_members possible)

abbrev pub fault_object : AskedFault → Text
fault_object fault = kind_object (codes "fault") (text_member (codes "fault") (fault_name fault))

abbrev pub end_object : Bool → Text
end_object safe = kind_object (codes "end") (safe_member safe)
