-- Events that journals show. Events are listed with the newest first.
use Rattle.std.specs.Prelude.{◌≡◌, false, List, [], ◌∷◌, ◌⊎◌}
use Rattle.abt_net.specs.Topology.{Topology}
use Rattle.abt_model.specs.declared.event.Event.{Event}
use Rattle.abt_model.specs.Outcomes.{outcome_of}
use Rattle.abt_weave.specs.Projections.{is_enabled, past_of}
use Rattle.abt_weave.specs.Stuck.{RunJournals, Fits, IsTurn}
use Rattle.abt_weave.specs.Comes.{IsTurnOf}

-- The event is a Turn that happens, and the yes that it makes is then the next entry of its journal, and couldn't happen without it.
pub record IsNeeded (net : Topology) (journals : RunJournals) (earlier : List Event) (event : Event) : Type 0 where
  pub turn : IsTurn net earlier event
  pub yes : Event
  pub makes : IsTurnOf net yes event
  pub absent : is_enabled (outcome_of net (past_of net earlier) yes) ≡ false
  pub fits : Fits net journals (event ∷ earlier) yes

-- A journal shows the event: it is the next entry of each journal that it falls on, and of one at least, or a Turn that such an
-- event needs.
abbrev pub IsShown : Topology → RunJournals → List Event → Event → Type 0
IsShown net journals earlier event = Fits net journals earlier event ⊎ IsNeeded net journals earlier event

-- each event is shown
abbrev pub AreShown : Topology → RunJournals → List Event → Type 0
AreShown net journals [] = Unit {0}
AreShown net journals (event ∷ earlier) = IsShown net journals earlier event × AreShown net journals earlier
