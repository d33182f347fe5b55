-- What can happen next as members of an object (docs/FORMATS.md, "Events line by line").
use Rattle.std.specs.Prelude.{List, [], ◌∷◌, ◌++◌, codes}
use Rattle.json.specs.Token.{Token, begin_object, end_object, string}
use Rattle.abt_entry.specs.ObjectMembers.{number_member}
use Rattle.abt_format.specs.EventText.{event_text}
use Rattle.abt_json.specs.Kinds.{exact_members}
use Rattle.abt_model.specs.declared.event.Event.{Event}
use Rattle.abt_step.specs.StateMembers.{array_member}
use Rattle.abt_step.specs.declared.possible.CellWindow.{CellWindow}
use Rattle.abt_step.specs.declared.possible.Possible.{Possible}

-- the text of each event
abbrev pub event_strings : List Event → List Token
event_strings [] = []
event_strings (event ∷ more) = string (event_text event) ∷ event_strings more

-- an object for each window
abbrev pub window_members : CellWindow → List Token
window_members window =
    number_member (codes "connection") window.conn ++ number_member (codes "cell") window.cell
    ++ exact_members (codes "from") (codes "from_text") window.from ++ exact_members (codes "to") (codes "to_text") window.to

abbrev pub window_tokens : List CellWindow → List Token
window_tokens [] = []
window_tokens (window ∷ more) = (begin_object ∷ (window_members window ++ end_object ∷ [])) ++ window_tokens more

abbrev pub cell_tokens : List (List CellWindow) → List Token
cell_tokens [] = []
cell_tokens (windows ∷ more) = window_tokens windows ++ cell_tokens more

abbrev pub possible_members : Possible → List Token
possible_members possible =
    array_member (codes "messages") (event_strings possible.messages) ++ array_member (codes "cells") (cell_tokens possible.cells)
