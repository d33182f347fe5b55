-- What goes out when a scenario is explained.
use Rattle.std.specs.Prelude.{Option, IfSome}
use Rattle.std.specs.Io.KnownBytes.{Appends, Keeps}
use Rattle.abt_text.specs.Text.{Text}
use Rattle.abt_text.specs.Streams.{AppendsPrefix}
use Rattle.abt_scenario.specs.Engine.{Explains}
use Rattle.abt_scenario.specs.declared.engine.EngineFault.{EngineFault}
use Rattle.abt_scenario.specs.declared.engine.EngineFault.TheVariants.{Write}
use Rattle.abt_perform.specs.Names.{fault_line, fault_of_engine}
use Rattle.abt_perform.specs.Plans.{Tells}
use Rattle.abt_perform.specs.declared.fault.Fault.{Fault}
use Rattle.abt_places.specs.Placed.{IsPlacedIn}
use Rattle.abt_places.specs.declared.placed.Placed.{Placed}
use Rattle.abt_reason.specs.Explanation.{IsExplanation}
use Rattle.abt_explain.specs.Written.{AddsWritten}

-- The text explains a scenario's run, with the lines of its events, and tells behind that which asks for rate 0 the source writes by another
-- code.
pub record IsWrittenBehind (placed : Placed) (source text : Text) : Type 0 where
  pub explanation : Text
  pub explained : IsExplanation placed.scenario.net placed.lines.items placed.scenario.events explanation
  pub written : AddsWritten source placed.scenario.events explanation text

-- So the text explains the scenario that was read.
pub record IsExplanationOf (left : Option Text) (text : Text) : Type 0 where
  pub placed : Placed
  pub read : IfSome left (IsPlacedIn placed)
  pub explained : IfSome left (λ source. IsWrittenBehind placed source text)

-- That explanation went out, and nothing else.
pub record IsExplained (left old new : Option Text) : Type 0 where
  pub text : Text
  pub explanation : IsExplanationOf left text
  pub written : Appends old new text

-- A part of it went out, from its beginning, and not all of it.
pub record IsExplainedPart (left old new : Option Text) : Type 0 where
  pub text : Text
  pub explanation : IsExplanationOf left text
  pub written : AppendsPrefix old new text

-- what a fault says, and what it leaves with the writer: a part of the explanation if that failed, and else what was there
abbrev pub Leaves : EngineFault → (left old new : Option Text) → Type 0
Leaves Write left old new = IsExplainedPart left old new
Leaves fault left old new = IfSome left (Explains fault) × Keeps old new

-- A scenario that isn't explained: why, what went out, and what was told.
pub record IsRefused (left old new errors_old errors_new : Option Text) : Type 0 where
  pub fault : EngineFault
  pub printed : Leaves fault left old new
  pub told : Tells (fault_line (fault_of_engine fault)) errors_old errors_new
