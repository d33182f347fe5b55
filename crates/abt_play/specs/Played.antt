-- Plays: lists of events each of which is enabled where it stands.
use Rattle.std.specs.Prelude.{◌≡◌, ◌≤◌, ℕ, Bool, true, false, List, [], ◌∷◌, ◌++◌, All, length, Option, Some, None}
use Rattle.abt_net.specs.Topology.{Topology}
use Rattle.abt_model.specs.Outcomes.{outcome_of}
use Rattle.abt_model.specs.Run.{facts_after, outcomes_of}
use Rattle.abt_model.specs.Traces.{IsTrace}
use Rattle.abt_model.specs.declared.event.Event.{Event}
use Rattle.abt_model.specs.declared.outcome.Outcome.{Outcome}
use Rattle.abt_model.specs.declared.outcome.Outcome.TheVariants.{NotEnabled}
use Rattle.abt_play.specs.declared.playing.Played.{Played}

-- the most events of a play
abbrev pub events_max : ℕ
events_max = 1000000

-- whether an outcome is that of an event that could happen
abbrev pub is_enabled : Outcome → Bool
is_enabled (NotEnabled cause) = false
is_enabled other = true

abbrev pub IsOfEnabled : Outcome → Type 0
IsOfEnabled outcome = is_enabled outcome ≡ true

-- Each of these events is enabled in the net after those before it, and there aren't too many.
pub record ArePlayable (net : Topology) (events : List Event) : Type 0 where
  pub enabled : All IsOfEnabled (outcomes_of net events)
  pub limit : length events ≤ events_max

-- A play: such events, and the trace of the run of just these.
pub record IsPlay (net : Topology) (played : Played) : Type 0 where
  pub playable : ArePlayable net played.events
  pub trace : IsTrace net played.events played.trace

-- What becomes of an event after some: it happens, with the outcome that it has there, or it isn't enabled, and nothing does.
abbrev pub Happens : Topology → (before : List Event) → Event → Option Outcome → (after : List Event) → Type 0
Happens net before event (Some outcome) after =
    (outcome ≡ outcome_of net (facts_after net before) event) × IsOfEnabled outcome × (after ≡ before ++ event ∷ [])
Happens net before event None after = (is_enabled (outcome_of net (facts_after net before) event) ≡ false) × (after ≡ before)
