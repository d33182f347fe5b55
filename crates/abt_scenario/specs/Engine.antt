-- What is made of the text that a reader had left, if it is known.
use Rattle.std.specs.Prelude.{◌≡◌, ◌<◌, ◌≤◌, ⊤, true, length, Option, IfSome, Ok, Err}
use Rattle.std.specs.Str.{IsUtf8}
use Rattle.std.specs.Io.KnownBytes.{Appends, Keeps}
use Rattle.abt_format.specs.Report.{report_of}
use Rattle.abt_text.specs.Streams.{AppendsPrefix, text_max}
use Rattle.abt_text.specs.Text.{Text}
use Rattle.abt_model.specs.Traces.{IsTrace}
use Rattle.abt_model.specs.declared.trace.Trace.{Trace}
use Rattle.abt_scenario.specs.declared.engine.EngineFault.{EngineFault}
use Rattle.abt_scenario.specs.declared.engine.EngineFault.TheVariants.{Read, TooLong, NotUtf8, Scenario, Write, Memory}
use Rattle.abt_scenario.specs.declared.fault.ScenarioFault.{ScenarioFault}
use Rattle.abt_scenario.specs.declared.fault.ScenarioFault.TheVariants as scenario_fault
use Rattle.abt_scenario.specs.declared.scenario.Scenario as declared
use Rattle.abt_scenario.specs.Scenarios.{Reads}

-- how a fault of a scenario's text is told of a reader's
abbrev pub told : ScenarioFault → EngineFault
told scenario_fault.Memory = Memory
told fault = Scenario fault

-- The text has at most as many octets as a scenario's.
abbrev pub IsOfLength : Text → Type 0
IsOfLength text = length text ≤ text_max

-- What each fault says of the whole text; of a reader that failed, and of want of memory, it says nothing.
abbrev pub Explains : EngineFault → Text → Type 0
Explains Read text = ⊤
Explains TooLong text = text_max < length text
Explains NotUtf8 text = IsOfLength text × (¬ IsUtf8 text)
Explains (Scenario fault) text = IsOfLength text × Reads text (Err fault)
Explains Write text = ⊥
Explains Memory text = ⊤

-- The text is the report of the scenario's run, which is safe: so its last line says.
pub record IsReportText (scenario : declared.Scenario) (text : Text) : Type 0 where
  pub trace : Trace
  pub is_trace : IsTrace scenario.net scenario.events trace
  pub is_safe : trace.safe ≡ true
  pub is_report : text ≡ report_of trace

-- The text is the report of the scenario that was read.
pub record IsReportOf (left : Option Text) (text : Text) : Type 0 where
  pub scenario : declared.Scenario
  pub read : IfSome left (λ source. Reads source (Ok scenario))
  pub reported : IsReportText scenario text

-- That report went out, and nothing else.
pub record Reports (left old new : Option Text) : Type 0 where
  pub text : Text
  pub report : IsReportOf left text
  pub written : Appends old new text

-- A part of it went out, from its beginning, and not all of it.
pub record ReportsPart (left old new : Option Text) : Type 0 where
  pub text : Text
  pub report : IsReportOf left text
  pub written : AppendsPrefix old new text

-- what a fault says, and what it leaves with the writer: a part of the report if that failed, and else what was there
abbrev pub Leaves : EngineFault → (left old new : Option Text) → Type 0
Leaves Write left old new = ReportsPart left old new
Leaves fault left old new = IfSome left (Explains fault) × Keeps old new
