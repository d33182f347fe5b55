-- What `abt draw` leaves. A picture goes to its own file, or to the standard output.
use Rattle.std.specs.Prelude.{◌⊎◌, ℕ, Bool, MatchBool, Option, MatchOption, IfSome, string_bytes}
use Rattle.std.specs.Option.{option_map}
use Rattle.std.specs.Io.KnownBytes.{Keeps}
use Rattle.abt_text.specs.Text.{Text}
use Rattle.abt_draw.specs.Drawings.{IsDrawing}
use Rattle.abt_draw.specs.Drawn.{TellsSome}
use Rattle.abt_plans.specs.declared.picture.PicturePlan.{PicturePlan}
use Rattle.abt_cli.specs.declared.command.DrawCommand.{DrawCommand}
use Rattle.abt_commands.specs.Advice.{TellsAdvice}
use Rattle.abt_commands.specs.Besides.{IsDone, IsUndone}
use Rattle.abt_commands.specs.Delivered.{BreaksOff, Delivers, is_printed}
use Rattle.abt_commands.specs.DrawsThreads.{DrawsThreads}
use Rattle.abt_commands.specs.Ends.{Ends, EndsOver, TakesText}
use Rattle.abt_commands.specs.Opening.{TellsUnopened}
use Rattle.abt_commands.specs.declared.advice.Runs.TheVariants.{Events}

-- There is a picture of the scenario that a reader had left, it is where it is to be, and nothing else is printed or told.
pub record IsScenarioDrawn (picture : PicturePlan) (left old new told_old told_new : Option Text) : Type 0 where
  pub text : Text
  pub drawing : IfSome left (IsDrawing picture text)
  pub delivered : Delivers (is_printed picture) text old new
  pub quiet : Keeps told_old told_new

-- There is a picture, and it isn't where it is to be.
pub record IsUndelivered (picture : PicturePlan) (left old new : Option Text) : Type 0 where
  pub text : Text
  pub drawing : IfSome left (IsDrawing picture text)
  pub broken : BreaksOff (is_printed picture) text old new

-- There is none, and nothing is printed, or it isn't where it is to be: some text is told.
pub record IsScenarioUndrawn (picture : PicturePlan) (left old new told_old told_new : Option Text) : Type 0 where
  pub why : Keeps old new ⊎ IsUndelivered picture left old new
  pub told : TellsSome told_old told_new

-- what drawing leaves over one reader
abbrev pub EndsDrawnOver : PicturePlan → (status : ℕ) → (left_old left_new old new told_old told_new : Option Text) → Type 0
EndsDrawnOver picture = Ends TakesText (IsScenarioDrawn picture) (IsScenarioUndrawn picture)

abbrev pub DrawsScenario : DrawCommand → (status : ℕ) → (left_old left_new old new told_old told_new : Option Text) → Type 0
DrawsScenario command =
    EndsOver (option_map string_bytes command.file) TellsUnopened TakesText (IsScenarioDrawn command.picture) (IsScenarioUndrawn command.picture)

-- the same, and behind that advice is told
abbrev pub IsDrawnAdvised : DrawCommand → (left old new told_old told_new : Option Text) → Type 0
IsDrawnAdvised command = IsDone (IsScenarioDrawn command.picture) (TellsAdvice Events (option_map string_bytes command.file))

abbrev pub IsUndrawnAdvised : DrawCommand → (left old new told_old told_new : Option Text) → Type 0
IsUndrawnAdvised command = IsUndone (IsScenarioUndrawn command.picture) (TellsAdvice Events (option_map string_bytes command.file))

abbrev pub EndsDrawnAdvised : DrawCommand → (status : ℕ) → (left_old left_new old new told_old told_new : Option Text) → Type 0
EndsDrawnAdvised command = Ends TakesText (IsDrawnAdvised command) (IsUndrawnAdvised command)

abbrev pub DrawsAdvised : DrawCommand → (status : ℕ) → (left_old left_new old new told_old told_new : Option Text) → Type 0
DrawsAdvised command =
    EndsOver (option_map string_bytes command.file) TellsUnopened TakesText (IsDrawnAdvised command) (IsUndrawnAdvised command)

-- By how many link workers there are, if the scripts of the scenario run in threads, of which nothing is advised.
abbrev pub Draws : (advised : Bool) → DrawCommand → (status : ℕ) → (left_old left_new old new told_old told_new : Option Text) → Type 0
Draws advised command status left_old left_new old new told_old told_new = MatchOption command.workers
    (MatchBool advised
    (DrawsAdvised command status left_old left_new old new told_old told_new)
    (DrawsScenario command status left_old left_new old new told_old told_new))
    (λ workers. DrawsThreads workers command status left_old left_new old new told_old told_new)
