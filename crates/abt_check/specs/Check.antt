-- What a check of a scenario's text finds.
use Rattle.std.specs.Prelude.{◌≡◌, List, [], ◌∷◌, Ok, Err}
use Rattle.abt_text.specs.Text.{Text}
use Rattle.abt_scenario.specs.Scenarios.{Reads}
use Rattle.abt_scenario.specs.declared.fault.ScenarioFault.{ScenarioFault}
use Rattle.abt_scenario.specs.declared.scenario.Scenario.{Scenario}
use Rattle.abt_check.specs.declared.finding.Found.{Found}
use Rattle.abt_check.specs.declared.finding.Checked.{Checked}

-- This fault comes first.
abbrev pub BeginsWith : ScenarioFault → List Found → Type 0
BeginsWith fault [] = ⊥
BeginsWith fault (found ∷ others) = found.fault ≡ fault

-- The text is read as some scenario.
pub record SaysScenario (text : Text) : Type 0 where
  pub scenario : Scenario
  pub read : Reads text (Ok scenario)

-- The first fault is the one with which the text is read; there is none if the text is read as a scenario.
abbrev pub AreFaultsOf : Text → List Found → Type 0
AreFaultsOf text [] = SaysScenario text
AreFaultsOf text (found ∷ others) = Reads text (Err found.fault)

abbrev pub IsCheckOf : Text → Checked → Type 0
IsCheckOf text checked = AreFaultsOf text checked.faults.items
