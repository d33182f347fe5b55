-- What goes out as JSON.
use Rattle.std.specs.Prelude.{◌≡◌, ℕ, ◌+◌, true, Option, IfSome, Result, Ok, Err, IsOkAnd, Vec, string_bytes}
use Rattle.std.specs.Io.KnownBytes.{Appends, Keeps}
use Rattle.std.specs.declared.alloc.Global.{Global}
use Rattle.abt_text.specs.Text.{Text}
use Rattle.abt_text.specs.Streams.{AppendsPrefix, ConsumesAtMost, text_max}
use Rattle.abt_model.specs.Traces.{IsTrace}
use Rattle.abt_model.specs.declared.trace.Trace.{Trace}
use Rattle.abt_scenario.specs.Scenarios.{Reads}
use Rattle.abt_scenario.specs.Engine.{Explains}
use Rattle.abt_scenario.specs.declared.scenario.Scenario as declared
use Rattle.abt_scenario.specs.declared.engine.EngineFault.{EngineFault}
use Rattle.abt_scenario.specs.declared.engine.EngineFault.TheVariants as engine
use Rattle.abt_perform.specs.Names.{fault_line, fault_of_engine}
use Rattle.abt_perform.specs.Plans.{EndsTextBy, Tells}
use Rattle.abt_perform.specs.declared.fault.Fault.{Fault}
use Rattle.abt_places.specs.Placed.{IsPlacedIn}
use Rattle.abt_places.specs.declared.placed.Placed.{Placed}
use Rattle.abt_json.specs.Explained.{IsExplainedJson}
use Rattle.abt_json.specs.Objects.{rate_json, cell_json, trace_objects}
use Rattle.abt_json.specs.declared.plan.JsonPlan.{JsonPlan}
use Rattle.abt_json.specs.declared.plan.JsonPlan.TheVariants.{Rate, Cell, Run, Explain}
use Rattle.abt_json.specs.declared.plan.Telling.{Telling}
use Rattle.abt_json.specs.declared.plan.Telling.TheVariants.{Report, Explanation}

-- The text is the report of the scenario's run, which is safe: so its last object says.
pub record IsRunJson (scenario : declared.Scenario) (text : Text) : Type 0 where
  pub trace : Trace
  pub is_trace : IsTrace scenario.net scenario.events trace
  pub is_safe : trace.safe ≡ true
  pub is_report : text ≡ trace_objects trace

-- The text is the report of the scenario that was read.
pub record IsReportOf (left : Option Text) (text : Text) : Type 0 where
  pub scenario : declared.Scenario
  pub read : IfSome left (λ source. Reads source (Ok scenario))
  pub said : IsRunJson scenario text

-- The text explains the scenario that was read, with the lines of its events.
pub record IsExplanationOf (left : Option Text) (text : Text) : Type 0 where
  pub placed : Placed
  pub read : IfSome left (IsPlacedIn placed)
  pub said : IsExplainedJson placed.scenario.net placed.lines.items placed.scenario.events text

-- the text says this of the scenario that was read
abbrev pub SaysOf : Telling → (left : Option Text) → Text → Type 0
SaysOf Report left text = IsReportOf left text
SaysOf Explanation left text = IsExplanationOf left text

-- That went out, and nothing else.
pub record Reports (telling : Telling) (left old new : Option Text) : Type 0 where
  pub text : Text
  pub report : SaysOf telling left text
  pub written : Appends old new text

-- A part of it went out, from its beginning, and not all of it.
pub record ReportsPart (telling : Telling) (left old new : Option Text) : Type 0 where
  pub text : Text
  pub report : SaysOf telling left text
  pub written : AppendsPrefix old new text

-- what a fault says, and what it leaves with the writer: a part of the objects if the writer failed, and else nothing
abbrev pub Leaves : EngineFault → Telling → (left old new : Option Text) → Type 0
Leaves engine.Write telling left old new = ReportsPart telling left old new
Leaves fault telling left old new = IfSome left (Explains fault) × Keeps old new

-- what a plan prints went out, all of it, if this is what the reader had left
abbrev pub Prints : JsonPlan → (left old new : Option Text) → Type 0
Prints (Rate code) left old new = IsOkAnd (rate_json (string_bytes code)) (Appends old new)
Prints (Cell hex) left old new = IsOkAnd (cell_json (string_bytes hex)) (Appends old new)
Prints (Run file) left old new = Reports Report left old new
Prints (Explain file) left old new = Reports Explanation left old new

-- what went out of a run's objects if this fault ended it
pub record EndsRunBy (fault : Fault) (telling : Telling) (left old new : Option Text) : Type 0 where
  pub engine_fault : EngineFault
  pub named : fault ≡ fault_of_engine engine_fault
  pub leaves : Leaves engine_fault telling left old new

-- what went out of a plan's objects if this fault ended it
abbrev pub EndsBy : Fault → JsonPlan → (left old new : Option Text) → Type 0
EndsBy fault (Rate code) left old new = EndsTextBy fault (rate_json (string_bytes code)) old new
EndsBy fault (Cell hex) left old new = EndsTextBy fault (cell_json (string_bytes hex)) old new
EndsBy fault (Run file) left old new = EndsRunBy fault Report left old new
EndsBy fault (Explain file) left old new = EndsRunBy fault Explanation left old new

-- what a plan takes of the reader: nothing, but a scenario's text
abbrev pub ReadsFor : JsonPlan → (old new : Option Text) → Type 0
ReadsFor (Run file) old new = ConsumesAtMost old new (text_max + 1)
ReadsFor (Explain file) old new = ConsumesAtMost old new (text_max + 1)
ReadsFor _ old new = Keeps old new

-- A plan that isn't done: why, what went out of its text, and what was told.
pub record IsRefused (plan : JsonPlan) (left old new errors_old errors_new : Option Text) : Type 0 where
  pub fault : Fault
  pub printed : EndsBy fault plan left old new
  pub told : Tells (fault_line fault) errors_old errors_new

-- a text, not seen by where it lies in memory
abbrev pub text_seen : Result (Vec ℕ Global) Fault → Result Text Fault
text_seen (Ok text) = Ok text.items
text_seen (Err fault) = Err fault
