-- Scenarios with the lines in which their events stand.
use Rattle.std.specs.Prelude.{◌≡◌, ◌⊎◌, ℕ, ⊤, List, [], ◌∷◌, drop, Some, Ok}
use Rattle.toml_parser.specs.Strings.{quoted}
use Rattle.abt_format.specs.EventTexts.{event_of}
use Rattle.abt_model.specs.declared.event.Event.{Event}
use Rattle.abt_places.specs.Places.{lines_at}
use Rattle.abt_scenario.specs.Scenarios.{Reads}
use Rattle.abt_text.specs.Text.{Text}
use Rattle.abt_places.specs.declared.placed.Placed.{Placed}

-- The text begins with a TOML string, which says this event.
pub record BeginsWith (event : Event) (text : Text) : Type 0 where
  pub said : Text
  pub rest : Text
  pub string : quoted text ≡ Some (said, rest)
  pub is_event : event_of said ≡ Some event

-- Behind so many octets of a text an event is said.
abbrev pub SaysAt : Text → Event → ℕ → Type 0
SaysAt source event at = BeginsWith event (drop at source)

-- These events are said at these places of a text, one at each.
abbrev pub SayEvents : Text → List ℕ → List Event → Type 0
SayEvents source [] [] = ⊤
SayEvents source (at ∷ places) (event ∷ events) = SaysAt source event at × SayEvents source places events
SayEvents source places events = ⊥

-- The lines are those of places at which the events are said.
pub record ArePlaced (source : Text) (events : List Event) (lines : List ℕ) : Type 0 where
  pub places : List ℕ
  pub said : SayEvents source places events
  pub is : lines ≡ lines_at source places

-- each event has its line, or none has
abbrev pub AreLinesOf : Text → List Event → List ℕ → Type 0
AreLinesOf source events lines = (lines ≡ []) ⊎ ArePlaced source events lines

-- A text is read as this scenario, and its events stand in these lines.
pub record IsPlacedIn (placed : Placed) (source : Text) : Type 0 where
  pub read : Reads source (Ok placed.scenario)
  pub lines : AreLinesOf source placed.scenario.events placed.lines.items
