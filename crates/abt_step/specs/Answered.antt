-- What goes out when a scenario's net answers lines.
use Rattle.std.specs.Prelude.{◌⊎◌, false, Ok, IfSome, Option}
use Rattle.std.specs.Io.KnownBytes.{Keeps}
use Rattle.abt_text.specs.Text.{Text}
use Rattle.abt_lines.specs.Lines.{seen_lines}
use Rattle.abt_lines.specs.Served.{IsServed, IsServedPart}
use Rattle.abt_lines.specs.declared.fault.LinesFault.{LinesFault}
use Rattle.abt_lines.specs.declared.fault.LinesFault.TheVariants.{Read, TooLong, Write, Memory}
use Rattle.abt_scenario.specs.Engine.{Explains}
use Rattle.abt_scenario.specs.Scenarios.{Reads}
use Rattle.abt_scenario.specs.declared.engine.EngineFault.{EngineFault}
use Rattle.abt_scenario.specs.declared.scenario.Scenario.{Scenario}
use Rattle.abt_perform.specs.Names.{fault_line, fault_of_engine}
use Rattle.abt_perform.specs.Plans.{Tells}
use Rattle.abt_perform.specs.declared.fault.Fault.{Fault}
use Rattle.abt_perform.specs.declared.fault.Fault.TheVariants as fault
use Rattle.abt_step.specs.Stepped.{dialogue}
use Rattle.abt_plans.specs.declared.answer_form.AnswerForm.{AnswerForm}

-- The answers of a scenario's net to all lines of a text: its events happen before the first line.
abbrev pub answers_of : AnswerForm → Scenario → Text → Text
answers_of form scenario source = dialogue form scenario.net scenario.events (seen_lines source)

-- answers in words, and of nothing else
abbrev pub words_alone : AnswerForm
words_alone = record { json = false; state = false; possible = false }

-- A scenario was read, and its net's answers to all that a reader had left went out, and nothing else.
pub record IsAnsweredAs (form : AnswerForm) (text left old new : Option Text) : Type 0 where
  pub scenario : Scenario
  pub read : IfSome text (λ source. Reads source (Ok scenario))
  pub answered : IsServed (answers_of form scenario) left old new

abbrev pub IsAnswered : (text left old new : Option Text) → Type 0
IsAnswered text left old new = IsAnsweredAs words_alone text left old new

-- the program's fault for one of the lines
abbrev pub fault_of_lines : LinesFault → Fault
fault_of_lines Read = fault.Read
fault_of_lines TooLong = fault.TooLong
fault_of_lines Write = fault.Write
fault_of_lines Memory = fault.Memory

-- No scenario was read, for a reason that is told: nothing is taken of the lines, and nothing went out.
pub record IsUnread (text left_old left_new old new errors_old errors_new : Option Text) : Type 0 where
  pub fault : EngineFault
  pub explained : IfSome text (Explains fault)
  pub untaken : Keeps left_old left_new
  pub silent : Keeps old new
  pub told : Tells (fault_line (fault_of_engine fault)) errors_old errors_new

-- A scenario was read, but not all lines are answered: why, which is told, and what went out, a beginning of its net's answers.
pub record IsCutOff (form : AnswerForm) (text left old new errors_old errors_new : Option Text) : Type 0 where
  pub scenario : Scenario
  pub read : IfSome text (λ source. Reads source (Ok scenario))
  pub fault : LinesFault
  pub printed : IsServedPart (answers_of form scenario) left old new
  pub told : Tells (fault_line (fault_of_lines fault)) errors_old errors_new

-- The lines of a net that aren't all answered.
abbrev pub IsRefusedAs : AnswerForm → (text left_old left_new old new errors_old errors_new : Option Text) → Type 0
IsRefusedAs form text left_old left_new old new errors_old errors_new =
    IsUnread text left_old left_new old new errors_old errors_new ⊎ IsCutOff form text left_old old new errors_old errors_new

abbrev pub IsRefused : (text left_old left_new old new errors_old errors_new : Option Text) → Type 0
IsRefused text left_old left_new old new errors_old errors_new =
    IsRefusedAs words_alone text left_old left_new old new errors_old errors_new
