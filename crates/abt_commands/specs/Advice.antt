-- What is advised behind a run (docs/FORMATS.md, "Checks").
use Rattle.std.specs.Prelude.{◌⊎◌, ◌||◌, ◌==◌, Bool, true, false, not, List, [], ◌∷◌, length, Option, None, Some, Ok, codes}
use Rattle.std.specs.Io.KnownBytes.{Keeps}
use Rattle.abt_files.specs.Shown.{shown}
use Rattle.abt_model.specs.declared.script_command.Command.{Command}
use Rattle.abt_perform.specs.Plans.{Tells}
use Rattle.abt_scenario.specs.Engine.{Explains}
use Rattle.abt_scenario.specs.Scenarios.{Reads}
use Rattle.abt_scenario.specs.declared.engine.EngineFault.{EngineFault}
use Rattle.abt_scenario.specs.declared.engine.EngineFault.TheVariants as engine
use Rattle.abt_scenario.specs.declared.scenario.Scenario.{Scenario}
use Rattle.abt_text.specs.Text.{Text}
use Rattle.abt_commands.specs.Opening.{TellsEach}
use Rattle.abt_commands.specs.declared.advice.Runs.{Runs}
use Rattle.abt_commands.specs.declared.advice.Runs.TheVariants.{Events, Scripts}

abbrev pub is_nil : {A : Type 0} → List A → Bool
is_nil items = length items == 0

-- whether one of these scripts has a command
abbrev pub has_command : List (List Command) → Bool
has_command [] = false
has_command (script ∷ scripts) = not (is_nil script) || has_command scripts

-- whether a source or the operator has something to do
abbrev pub has_script : Scenario → Bool
has_script scenario = has_command scenario.scripts || not (is_nil scenario.operator)

-- of a scenario that has only what a command doesn't run: which commands run it, and of one that has neither events nor scripts, that
abbrev pub advice : (nothing : Text) → Runs → (has_events has_script : Bool) → Text
advice nothing Events true has_script = []
advice nothing Events false true = codes "this scenario has only scripts: use abt threads, or abt play\n"
advice nothing Scripts has_events true = []
advice nothing Scripts true false = codes "this scenario has only events: use abt run\n"
advice nothing runs false false = nothing

abbrev pub advice_of : (nothing : Text) → Runs → Scenario → Text
advice_of nothing runs scenario = advice nothing runs (not (is_nil scenario.events)) (has_script scenario)

-- who says what is wrong in a text, of this file or of the standard input
abbrev pub check_pieces : (file : Option Text) → List Text
check_pieces (Some name) = codes "abt check " ∷ shown name ∷ codes " says why\n" ∷ []
check_pieces None = codes "abt check says why\n" ∷ []

abbrev pub TellsOfFault : EngineFault → (file : Option Text) → (source : Text) → (old new : Option Text) → Type 0
TellsOfFault (engine.Scenario fault) file source old new = Explains (engine.Scenario fault) source × TellsEach (check_pieces file) old new
TellsOfFault fault file source old new = Explains fault source × Keeps old new

abbrev pub TellsOfScenario : (nothing : Text) → Runs → Scenario → (source : Text) → (old new : Option Text) → Type 0
TellsOfScenario nothing runs scenario source old new = Reads source (Ok scenario) × Tells (advice_of nothing runs scenario) old new

-- A text that is a scenario was told of so, or else its fault.
abbrev pub TellsAdvice : Runs → (file : Option Text) → (source : Text) → (old new : Option Text) → Type 0
TellsAdvice runs file source old new =
    ((scenario : Scenario) × TellsOfScenario (codes "nothing runs: there are no events and no scripts\n") runs scenario source old new)
    ⊎ ((fault : EngineFault) × TellsOfFault fault file source old new)

-- The same of a text of which a check tells the faults, and that nothing runs.
abbrev pub TellsOfNothing : Runs → (source : Text) → (old new : Option Text) → Type 0
TellsOfNothing runs source old new =
    ((scenario : Scenario) × TellsOfScenario [] runs scenario source old new)
    ⊎ ((fault : EngineFault) × Explains fault source × Keeps old new)
