-- What `abt threads` leaves.
use Rattle.std.specs.Prelude.{◌||◌, ℕ, Bool, MatchBool, Option, MatchOption, is_some, string_bytes}
use Rattle.std.specs.Option.{option_map}
use Rattle.abt_text.specs.Text.{Text}
use Rattle.abt_perform_threads.specs.Performing.{IsRefused, IsShown}
use Rattle.abt_cli.specs.declared.command.ThreadsCommand.{ThreadsCommand}
use Rattle.abt_commands.specs.Advice.{TellsAdvice}
use Rattle.abt_commands.specs.Besides.{IsDone, IsUndone}
use Rattle.abt_commands.specs.Ends.{Ends, EndsOver, Quietly, TakesText}
use Rattle.abt_commands.specs.Opening.{TellsOpenFault}
use Rattle.abt_commands.specs.ThreadsEvents.{TellsRunOf}
use Rattle.abt_commands.specs.ThreadsJournals.{KeepsJournals}
use Rattle.abt_commands.specs.ThreadsObjects.{SaysThreads}
use Rattle.abt_commands.specs.declared.advice.Runs.TheVariants.{Scripts}

-- All lines of a run went out, or there is a fault, which is told.
abbrev pub ShowsRun : ThreadsCommand → (status : ℕ) → (left_old left_new old new told_old told_new : Option Text) → Type 0
ShowsRun command =
    EndsOver (option_map string_bytes command.file) TellsOpenFault TakesText (Quietly (IsShown command.workers)) (IsRefused command.workers)

-- The same, and behind that advice is told.
abbrev pub IsShownAdvised : ThreadsCommand → (left old new told_old told_new : Option Text) → Type 0
IsShownAdvised command = IsDone (Quietly (IsShown command.workers)) (TellsAdvice Scripts (option_map string_bytes command.file))

abbrev pub IsUnshownAdvised : ThreadsCommand → (left old new told_old told_new : Option Text) → Type 0
IsUnshownAdvised command = IsUndone (IsRefused command.workers) (TellsAdvice Scripts (option_map string_bytes command.file))

abbrev pub EndsAdvised : ThreadsCommand → (status : ℕ) → (left_old left_new old new told_old told_new : Option Text) → Type 0
EndsAdvised command = Ends TakesText (IsShownAdvised command) (IsUnshownAdvised command)

abbrev pub ShowsAdvised : ThreadsCommand → (status : ℕ) → (left_old left_new old new told_old told_new : Option Text) → Type 0
ShowsAdvised command =
    EndsOver (option_map string_bytes command.file) TellsOpenFault TakesText (IsShownAdvised command) (IsUnshownAdvised command)

-- whether the events of a run are told or written
abbrev pub tells_events : ThreadsCommand → Bool
tells_events command = command.explain || is_some command.events

-- It is said as JSON, or its journals are written, or its events told or written, or neither.
abbrev pub RunsThreads : (advised : Bool) → ThreadsCommand → (status : ℕ) → (left_old left_new old new told_old told_new : Option Text) → Type 0
RunsThreads advised command status left_old left_new old new told_old told_new = MatchBool command.json
    (SaysThreads command status left_old left_new old new told_old told_new)
    (MatchOption command.journals
    (MatchBool (tells_events command)
    (TellsRunOf command status left_old left_new old new told_old told_new)
    (MatchBool advised
    (ShowsAdvised command status left_old left_new old new told_old told_new)
    (ShowsRun command status left_old left_new old new told_old told_new)))
    (λ journals. KeepsJournals command (string_bytes journals) status left_old left_new old new told_old told_new))
