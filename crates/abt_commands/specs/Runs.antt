-- What `abt run` and `abt explain` leave.
use Rattle.std.specs.Prelude.{ℕ, Bool, MatchBool, Option, None, String, string_bytes}
use Rattle.std.specs.Option.{option_map}
use Rattle.std.specs.declared.alloc.Global.{Global}
use Rattle.abt_text.specs.Text.{Text}
use Rattle.abt_explain.specs.Explained as lines
use Rattle.abt_json.specs.Printed as objects
use Rattle.abt_json.specs.declared.plan.JsonPlan.TheVariants.{Run, Explain}
use Rattle.abt_perform.specs.Plans as plain
use Rattle.abt_commands.specs.Advice.{TellsAdvice}
use Rattle.abt_commands.specs.Besides.{IsDone, IsUndone}
use Rattle.abt_commands.specs.Checked.{RunsAdvised, RunsChecked, the_run}
use Rattle.abt_commands.specs.Ends.{Ends, EndsOver, Quietly, TakesText}
use Rattle.abt_commands.specs.Strict.{RunsStrict}
use Rattle.abt_commands.specs.Opening.{TellsOpenFault, TellsUnopened}
use Rattle.abt_commands.specs.declared.advice.Runs.TheVariants.{Events}

abbrev pub RunsPlain : Option (String Global) → (status : ℕ) → (left_old left_new old new told_old told_new : Option Text) → Type 0
RunsPlain file =
    EndsOver (option_map string_bytes file) TellsOpenFault TakesText (Quietly (plain.Prints the_run)) (plain.IsRefused the_run)

abbrev pub RunsAsJson : Option (String Global) → (status : ℕ) → (left_old left_new old new told_old told_new : Option Text) → Type 0
RunsAsJson file =
    EndsOver (option_map string_bytes file) TellsUnopened TakesText (Quietly (objects.Prints (Run None))) (objects.IsRefused (Run None))

-- A strict run tells only what is strict of it, and as JSON nothing is told besides.
abbrev pub Runs : (strict json explain advised : Bool) → Option (String Global) → (status : ℕ)
    → (left_old left_new old new told_old told_new : Option Text) → Type 0
Runs strict json explain advised file status left_old left_new old new told_old told_new = MatchBool strict
    (RunsStrict json file status left_old left_new old new told_old told_new)
    (MatchBool json
    (RunsAsJson file status left_old left_new old new told_old told_new)
    (MatchBool explain
    (RunsChecked file status left_old left_new old new told_old told_new)
    (MatchBool advised
    (RunsAdvised file status left_old left_new old new told_old told_new)
    (RunsPlain file status left_old left_new old new told_old told_new))))

abbrev pub ExplainsPlain : Option (String Global) → (status : ℕ) → (left_old left_new old new told_old told_new : Option Text) → Type 0
ExplainsPlain file = EndsOver (option_map string_bytes file) TellsUnopened TakesText (Quietly lines.IsExplained) lines.IsRefused

abbrev pub ExplainsAsJson : Option (String Global) → (status : ℕ) → (left_old left_new old new told_old told_new : Option Text) → Type 0
ExplainsAsJson file =
    EndsOver (option_map string_bytes file) TellsUnopened TakesText (Quietly (objects.Prints (Explain None))) (objects.IsRefused (Explain None))

-- the explanation went out, all of it, and behind that advice is told
abbrev pub IsExplainedAdvised : (file : Option Text) → (left old new told_old told_new : Option Text) → Type 0
IsExplainedAdvised file = IsDone (Quietly lines.IsExplained) (TellsAdvice Events file)

-- there is a fault, which is told, and behind it advice
abbrev pub IsUnexplainedAdvised : (file : Option Text) → (left old new told_old told_new : Option Text) → Type 0
IsUnexplainedAdvised file = IsUndone lines.IsRefused (TellsAdvice Events file)

-- what that leaves over one reader
abbrev pub EndsExplainedAdvised : (file : Option Text) → (status : ℕ) → (left_old left_new old new told_old told_new : Option Text) → Type 0
EndsExplainedAdvised file = Ends TakesText (IsExplainedAdvised file) (IsUnexplainedAdvised file)

abbrev pub ExplainsAdvised : Option (String Global) → (status : ℕ) → (left_old left_new old new told_old told_new : Option Text) → Type 0
ExplainsAdvised file =
    EndsOver (option_map string_bytes file) TellsUnopened TakesText (IsExplainedAdvised (option_map string_bytes file))
    (IsUnexplainedAdvised (option_map string_bytes file))

-- As JSON nothing is told besides.
abbrev pub Explains : (json advised : Bool) → Option (String Global) → (status : ℕ)
    → (left_old left_new old new told_old told_new : Option Text) → Type 0
Explains json advised file status left_old left_new old new told_old told_new = MatchBool json
    (ExplainsAsJson file status left_old left_new old new told_old told_new)
    (MatchBool advised
    (ExplainsAdvised file status left_old left_new old new told_old told_new)
    (ExplainsPlain file status left_old left_new old new told_old told_new))
