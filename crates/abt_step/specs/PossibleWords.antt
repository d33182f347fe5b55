-- What can happen next in words (docs/FORMATS.md, "Events line by line").
use Rattle.std.specs.Prelude.{List, [], ◌∷◌, codes}
use Rattle.abt_format.specs.EventText.{event_text}
use Rattle.abt_model.specs.declared.event.Event.{Event}
use Rattle.abt_model.specs.declared.event.Event.TheVariants.{Arrive}
use Rattle.abt_text.specs.Text.{Text, ◌⋅◌, decimal, newline}
use Rattle.abt_step.specs.declared.possible.CellWindow.{CellWindow}
use Rattle.abt_step.specs.declared.possible.Possible.{Possible}

-- the text of each event, behind a semicolon
abbrev pub events_text : List Event → Text
events_text [] = []
events_text (event ∷ more) = codes "; " ⋅ event_text event ⋅ events_text more

-- the arrival at the first moment of a window, and its last one
abbrev pub window_text : CellWindow → Text
window_text window = codes "; " ⋅ event_text (Arrive window.conn window.cell window.from) ⋅ codes " to " ⋅ decimal window.to

abbrev pub windows_text : List CellWindow → Text
windows_text [] = []
windows_text (window ∷ more) = window_text window ⋅ windows_text more

abbrev pub cells_text : List (List CellWindow) → Text
cells_text [] = []
cells_text (windows ∷ more) = windows_text windows ⋅ cells_text more

abbrev pub possible_line : Possible → Text
possible_line possible = codes "possible" ⋅ events_text possible.messages ⋅ cells_text possible.cells ⋅ newline
