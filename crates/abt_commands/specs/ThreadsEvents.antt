-- What a run in threads leaves whose woven events are told or written.
use Rattle.std.specs.Prelude.{◌≡◌, ◌⊎◌, ℕ, Bool, MatchBool, Option, Some, IfSome, string_bytes}
use Rattle.std.specs.Option.{option_map}
use Rattle.std.specs.Io.KnownBytes.{Keeps}
use Rattle.abt_text.specs.Text.{Text}
use Rattle.abt_perform_threads.specs.Performing.{IsRunOf, IsRefused}
use Rattle.abt_perform_threads.specs.declared.performing.JudgedRun.{JudgedRun}
use Rattle.abt_explain.specs.Told.{TellsEvents}
use Rattle.abt_cli.specs.declared.command.ThreadsCommand.{ThreadsCommand}
use Rattle.abt_commands.specs.Besides.{IsUnread}
use Rattle.abt_commands.specs.Checked.{TellsCheckFirst}
use Rattle.abt_commands.specs.Ends.{Ends, EndsOver, TakesText}
use Rattle.abt_commands.specs.Opening.{TellsUnopened}
use Rattle.abt_commands.specs.Saved.{IsSavedIfNamed, IsUnsavedIfNamed}
use Rattle.abt_commands.specs.declared.advice.Runs.TheVariants.{Scripts}

-- the file for the events
abbrev pub events_file_of : ThreadsCommand → Option Text
events_file_of command = option_map string_bytes command.events

-- the events of a run are told, if they are to be; else nothing is
abbrev pub TellsEventsBesides : (explain : Bool) → JudgedRun → (old new : Option Text) → Type 0
TellsEventsBesides explain run old new = MatchBool explain (TellsEvents run.ran.net run.judged.events old new) (Keeps old new)

-- the check of the scenario is told, if the events are; else nothing is
abbrev pub TellsCheckBesides : (explain : Bool) → (source : Text) → (old new : Option Text) → Type 0
TellsCheckBesides explain source old new = MatchBool explain (TellsCheckFirst Scripts source old new) (Keeps old new)

-- The events of a run are in their file, and were told.
pub record TellsSaved (command : ThreadsCommand) (run : JudgedRun) (old new : Option Text) : Type 0 where
  pub saved : IsSavedIfNamed (events_file_of command) run.ran.net run.judged.events
  pub between : Option Text
  pub quiet : Keeps old between
  pub told : TellsEventsBesides command.explain run between new

-- They aren't in it: that was told, and then the events.
pub record TellsUnsaved (command : ThreadsCommand) (run : JudgedRun) (old new : Option Text) : Type 0 where
  pub between : Option Text
  pub unsaved : IsUnsavedIfNamed (events_file_of command) run.ran.net run.judged.events old between
  pub told : TellsEventsBesides command.explain run between new

-- One run of a text: all its lines went out, and its events are in their file, and were told.
pub record IsRunTold (command : ThreadsCommand) (source : Text) (old new told_old told_new : Option Text) : Type 0 where
  pub run : JudgedRun
  pub is_run : IsRunOf command.workers run (Some source) old new
  pub told : TellsSaved command run told_old told_new

-- One such run, whose events aren't in their file.
pub record IsRunUntold (command : ThreadsCommand) (source : Text) (old new told_old told_new : Option Text) : Type 0 where
  pub run : JudgedRun
  pub is_run : IsRunOf command.workers run (Some source) old new
  pub told : TellsUnsaved command run told_old told_new

-- why a text isn't told: there is no run, or not all its lines went out; or else its events aren't in their file
abbrev pub IsUnfinished : ThreadsCommand → (source : Text) → (old new told_old told_new : Option Text) → Type 0
IsUnfinished command source old new told_old told_new =
    IsRefused command.workers (Some source) old new told_old told_new ⊎ IsRunUntold command source old new told_old told_new

-- A text is told, and behind it the check.
pub record IsTold (command : ThreadsCommand) (source : Text) (old new told_old told_new : Option Text) : Type 0 where
  pub between : Option Text
  pub told : IsRunTold command source old new told_old between
  pub checked : TellsCheckBesides command.explain source between told_new

-- It isn't: that is told, and behind it the check.
pub record IsUntold (command : ThreadsCommand) (source : Text) (old new told_old told_new : Option Text) : Type 0 where
  pub between : Option Text
  pub ends : IsUnfinished command source old new told_old between
  pub checked : TellsCheckBesides command.explain source between told_new

-- the events of the text that a reader had left are told
pub record IsToldOver (command : ThreadsCommand) (left old new told_old told_new : Option Text) : Type 0 where
  pub source : Text
  pub is_left : IfSome left (λ octets. source ≡ octets)
  pub told : IsTold command source old new told_old told_new

pub record IsUntoldText (command : ThreadsCommand) (left old new told_old told_new : Option Text) : Type 0 where
  pub source : Text
  pub is_left : IfSome left (λ octets. source ≡ octets)
  pub untold : IsUntold command source old new told_old told_new

abbrev pub IsUntoldOver : ThreadsCommand → (left old new told_old told_new : Option Text) → Type 0
IsUntoldOver command left old new told_old told_new =
    IsUnread left old new told_old told_new ⊎ IsUntoldText command left old new told_old told_new

-- what such a run leaves over one reader
abbrev pub EndsToldOver : ThreadsCommand → (status : ℕ) → (left_old left_new old new told_old told_new : Option Text) → Type 0
EndsToldOver command = Ends TakesText (IsToldOver command) (IsUntoldOver command)

abbrev pub TellsRunOf : ThreadsCommand → (status : ℕ) → (left_old left_new old new told_old told_new : Option Text) → Type 0
TellsRunOf command =
    EndsOver (option_map string_bytes command.file) TellsUnopened TakesText (IsToldOver command) (IsUntoldOver command)
