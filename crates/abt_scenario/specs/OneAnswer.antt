-- A text says one thing: one scenario or one first fault, and if it says a scenario, one report.
use Rattle.std.specs.Prelude.{◌≡◌, Some}
use Rattle.abt_text.specs.Text.{Text}
use Rattle.abt_scenario.specs.declared.scenario.Scenario.{Scenario}
use Rattle.abt_scenario.specs.Engine.{IsReportOf}
use Rattle.abt_scenario.specs.Reading.{Read}
use Rattle.abt_scenario.specs.Scenarios.{Reads}

abbrev pub HasOneReading : Text → Type 0
HasOneReading text = (one other : Read Scenario) → Reads text one → Reads text other → one ≡ other

abbrev pub HasOneReport : Text → Type 0
HasOneReport text = (one other : Text) → IsReportOf (Some text) one → IsReportOf (Some text) other → one ≡ other
