-- What goes out when a scenario is checked.
use Rattle.std.specs.Prelude.{◌≡◌, ◌⊎◌, Bool, true, false, List, [], ◌∷◌, Option, None, IfSome, string_bytes}
use Rattle.std.specs.Io.KnownBytes.{Appends, Keeps}
use Rattle.abt_text.specs.Text.{Text}
use Rattle.abt_text.specs.Streams.{AppendsPrefix}
use Rattle.abt_scenario.specs.Engine.{Explains}
use Rattle.abt_scenario.specs.declared.engine.EngineFault.{EngineFault}
use Rattle.abt_scenario.specs.declared.engine.EngineFault.TheVariants.{Write, Scenario}
use Rattle.abt_perform.specs.Names.{fault_line, fault_of_engine}
use Rattle.abt_perform.specs.Plans.{Tells}
use Rattle.abt_check.specs.Check.{IsCheckOf}
use Rattle.abt_check.specs.CheckObjects.{check_objects}
use Rattle.abt_check.specs.CheckText.{check_text}
use Rattle.abt_check.specs.declared.finding.Found.{Found}
use Rattle.abt_check.specs.declared.finding.Checked.{Checked}
use Rattle.abt_check.specs.declared.telling.Answer.{Answer}

abbrev pub has_some : List Found → Bool
has_some [] = false
has_some (found ∷ others) = true

-- The answer tells a check of the text.
pub record IsAnswerTo (source : Text) (answer : Answer) : Type 0 where
  pub checked : Checked
  pub is_check : IsCheckOf source checked
  pub told : string_bytes answer.text ≡ check_text source checked
  pub faulty : answer.is_faulty ≡ has_some checked.faults.items

-- a check in lines, or in objects
abbrev pub said_of : (as_json : Bool) → Text → Checked → Text
said_of true source checked = check_objects None source checked
said_of false source checked = check_text source checked

-- The text tells a check of the source, with or without a fault.
pub record IsSaidOf (as_json faulty : Bool) (text source : Text) : Type 0 where
  pub checked : Checked
  pub is_check : IsCheckOf source checked
  pub told : text ≡ said_of as_json source checked
  pub is_faulty : faulty ≡ has_some checked.faults.items

-- Such a text went out, made of the octets that a reader had left.
pub record Answers (as_json faulty : Bool) (left old new : Option Text) : Type 0 where
  pub text : Text
  pub said : IfSome left (IsSaidOf as_json faulty text)
  pub written : Appends old new text

-- A part of one went out, from its beginning, and not all of it.
pub record AnswersPart (as_json : Bool) (left old new : Option Text) : Type 0 where
  pub faulty : Bool
  pub text : Text
  pub said : IfSome left (IsSaidOf as_json faulty text)
  pub written : AppendsPrefix old new text

-- what a fault says, and what it leaves with the writer: a part of the check if the writer failed, and else nothing;
-- a fault of the text is no such fault
abbrev pub Leaves : EngineFault → (as_json : Bool) → (left old new : Option Text) → Type 0
Leaves Write as_json left old new = AnswersPart as_json left old new
Leaves (Scenario fault) as_json left old new = ⊥
Leaves fault as_json left old new = IfSome left (Explains fault) × Keeps old new

-- A scenario that isn't checked: why, what went out, and what was told.
pub record IsRefused (as_json : Bool) (left old new errors_old errors_new : Option Text) : Type 0 where
  pub fault : EngineFault
  pub printed : Leaves fault as_json left old new
  pub told : Tells (fault_line (fault_of_engine fault)) errors_old errors_new

-- Status 1: the check tells a fault, or there is none, and a line says why.
abbrev pub IsFaulty : (as_json : Bool) → (left old new errors_old errors_new : Option Text) → Type 0
IsFaulty as_json left old new errors_old errors_new =
    (Answers as_json true left old new × Keeps errors_old errors_new) ⊎ IsRefused as_json left old new errors_old errors_new
