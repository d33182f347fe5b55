-- Texts that are scenarios of a net and of events.
use Rattle.std.specs.Prelude.{◌≡◌, ◌≤◌, List, length, Ok}
use Rattle.abt_net.specs.Topology.{Topology}
use Rattle.abt_model.specs.declared.event.Event.{Event}
use Rattle.abt_text.specs.Text.{Text}
use Rattle.abt_text.specs.Streams.{text_max}
use Rattle.abt_scenario.specs.Scenarios.{Reads}
use Rattle.abt_scenario.specs.declared.scenario.Scenario as declared
use Rattle.abt_scenario.specs.ScenarioText.{scenario_text}

-- The scenario has this net and these events.
pub record IsOf (net : Topology) (events : List Event) (scenario : declared.Scenario) : Type 0 where
  pub net_is : scenario.net ≡ net
  pub events_are : scenario.events ≡ events

-- The text is read as a scenario of this net and these events.
pub record IsReadAs (net : Topology) (events : List Event) (text : Text) : Type 0 where
  pub scenario : declared.Scenario
  pub read : Reads text (Ok scenario)
  pub is_of : IsOf net events scenario

-- The text is that of this net and these events, is read as these, and is no longer than a scenario may be.
pub record IsSample (net : Topology) (events : List Event) (text : Text) : Type 0 where
  pub is : text ≡ scenario_text net events
  pub within : length text ≤ text_max
  pub read : IsReadAs net events text
