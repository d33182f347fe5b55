-- Whether each event of a scenario is enabled.
use Rattle.std.specs.Prelude.{◌≡◌, ◌⊎◌, List, [], ◌∷◌, Option, Some, None, Ok, Err}
use Rattle.std.specs.Str.{IsUtf8}
use Rattle.abt_scenario.specs.Scenarios.{Reads}
use Rattle.abt_scenario.specs.declared.fault.ScenarioFault.{ScenarioFault}
use Rattle.abt_scenario.specs.declared.scenario.Scenario.{Scenario}
use Rattle.abt_text.specs.Text.{Text}
use Rattle.abt_check.specs.Unable.{UnableView, unable_in}
use Rattle.abt_check.specs.declared.unable.Look.TheVariants.{Strict}

-- what is said of the first of the events that aren't enabled, if there are any
abbrev pub first_said : List UnableView → Option Text
first_said [] = None
first_said (unable ∷ others) = Some unable.text

-- The text is read as a scenario, and that is said of its first event that isn't enabled.
pub record IsSaidFirst (source : Text) (first : Option Text) : Type 0 where
  pub scenario : Scenario
  pub read : Reads source (Ok scenario)
  pub said : first ≡ first_said (unable_in Strict scenario.net [] 0 scenario.events)

-- Its octets are no text, or it is read as no scenario: it has no event.
pub record HasNoEvent (source : Text) (first : Option Text) : Type 0 where
  pub why : (¬ IsUtf8 source) ⊎ ((fault : ScenarioFault) × Reads source (Err fault))
  pub none : first ≡ None

abbrev pub IsFirstUnable : (source : Text) → (first : Option Text) → Type 0
IsFirstUnable source first = IsSaidFirst source first ⊎ HasNoEvent source first
