-- What a run leaves whose scenario is checked besides, or of which advice is told.
use Rattle.std.specs.Prelude.{◌⊎◌, ℕ, Option, None, String, string_bytes}
use Rattle.std.specs.Option.{option_map}
use Rattle.std.specs.Str.{IsUtf8}
use Rattle.std.specs.Io.KnownBytes.{Keeps}
use Rattle.std.specs.declared.alloc.Global.{Global}
use Rattle.abt_text.specs.Text.{Text}
use Rattle.abt_perform.specs.Names.{fault_line}
use Rattle.abt_perform.specs.Plans.{IsRefused, Prints, Tells}
use Rattle.abt_perform.specs.declared.fault.Fault.TheVariants.{Memory}
use Rattle.abt_perform.specs.declared.plan.Plan.{Plan}
use Rattle.abt_perform.specs.declared.plan.Plan.TheVariants.{Run}
use Rattle.abt_check.specs.Performed.{IsAnswerTo}
use Rattle.abt_check.specs.declared.telling.Answer.{Answer}
use Rattle.abt_commands.specs.Advice.{TellsAdvice, TellsOfNothing}
use Rattle.abt_commands.specs.Besides.{IsDone, IsUndone}
use Rattle.abt_commands.specs.Ends.{Ends, EndsOver, Quietly, TakesText}
use Rattle.abt_commands.specs.Opening.{TellsOpenFault, TellsUnopened}
use Rattle.abt_commands.specs.declared.advice.Runs.{Runs}
use Rattle.abt_commands.specs.declared.advice.Runs.TheVariants.{Events}
use Rattle.abt_commands.specs.declared.run_besides.Besides.{Besides}
use Rattle.abt_commands.specs.declared.run_besides.Besides.TheVariants.{Check, Advice}

-- to run the scenario that a reader has
abbrev pub the_run : Plan
the_run = Run None

-- The check of a text was told, as far as the writer took it. There is none of a text that is no UTF-8, and none if memory was refused,
-- which then is told.
abbrev pub TellsCheck : Text → (old new : Option Text) → Type 0
TellsCheck source old new =
    ((¬ IsUtf8 source) × Keeps old new)
    ⊎ (Tells (fault_line Memory) old new
    ⊎ ((answer : Answer) × IsAnswerTo source answer × Tells (string_bytes answer.text) old new))

-- The check was told, and then which commands run a scenario that has only what this one doesn't.
pub record TellsCheckFirst (runs : Runs) (source : Text) (old new : Option Text) : Type 0 where
  pub between : Option Text
  pub checked : TellsCheck source old between
  pub advised : TellsOfNothing runs source between new

-- what is told besides of a text
abbrev pub TellsBesides : Besides → (file : Option Text) → (source : Text) → (old new : Option Text) → Type 0
TellsBesides Check file source = TellsCheckFirst Events source
TellsBesides Advice file source = TellsAdvice Events file source

-- what a run leaves of which something is told besides, done or refused
abbrev pub IsRunBesides : Besides → (file : Option Text) → (left old new told_old told_new : Option Text) → Type 0
IsRunBesides besides file = IsDone (Quietly (Prints the_run)) (TellsBesides besides file)

abbrev pub IsRefusedBesides : Besides → (file : Option Text) → (left old new told_old told_new : Option Text) → Type 0
IsRefusedBesides besides file = IsUndone (IsRefused the_run) (TellsBesides besides file)

-- what such a run leaves over one reader
abbrev pub EndsBesides : Besides → (file : Option Text) → (status : ℕ) → (left_old left_new old new told_old told_new : Option Text) → Type 0
EndsBesides besides file = Ends TakesText (IsRunBesides besides file) (IsRefusedBesides besides file)

abbrev pub RunsChecked : Option (String Global) → (status : ℕ) → (left_old left_new old new told_old told_new : Option Text) → Type 0
RunsChecked file =
    EndsOver (option_map string_bytes file) TellsUnopened TakesText (IsRunBesides Check (option_map string_bytes file))
    (IsRefusedBesides Check (option_map string_bytes file))

abbrev pub RunsAdvised : Option (String Global) → (status : ℕ) → (left_old left_new old new told_old told_new : Option Text) → Type 0
RunsAdvised file =
    EndsOver (option_map string_bytes file) TellsOpenFault TakesText (IsRunBesides Advice (option_map string_bytes file))
    (IsRefusedBesides Advice (option_map string_bytes file))
