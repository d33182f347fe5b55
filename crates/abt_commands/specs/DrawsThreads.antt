-- What a run in threads leaves whose woven events are drawn.
use Rattle.std.specs.Prelude.{◌≡◌, ◌⊎◌, ℕ, Bool, true, false, Option, string_bytes}
use Rattle.std.specs.Option.{option_map}
use Rattle.std.specs.Io.KnownBytes.{Appends, Keeps}
use Rattle.abt_text.specs.Text.{Text}
use Rattle.abt_plans.specs.declared.picture.PicturePlan.{PicturePlan}
use Rattle.abt_perform.specs.declared.fault.Fault.{Fault}
use Rattle.abt_perform.specs.declared.fault.Fault.TheVariants.{Memory}
use Rattle.abt_perform_threads.specs.Performing.{IsRunOf, EndsBy}
use Rattle.abt_perform_threads.specs.declared.performing.JudgedRun.{JudgedRun}
use Rattle.abt_cli.specs.declared.command.DrawCommand.{DrawCommand}
use Rattle.abt_commands.specs.Delivered.{is_printed}
use Rattle.abt_commands.specs.Ends.{Ends, EndsOver, TakesText}
use Rattle.abt_commands.specs.Opening.{TellsUnopened}
use Rattle.abt_commands.specs.Saved.{IsSavedIfNamed}

-- The scripts of the scenario that a reader had left ran with so many link workers, and the journals of this run are woven into these
-- events: that was shown to some writer.
pub record IsRunOfText (workers : ℕ) (left : Option Text) (run : JudgedRun) : Type 0 where
  pub old : Option Text
  pub new : Option Text
  pub is_run : IsRunOf workers run left old new

-- This is why there is no such run.
pub record EndsRunOfText (workers : ℕ) (left : Option Text) (fault : Fault) : Type 0 where
  pub old : Option Text
  pub new : Option Text
  pub ends : EndsBy workers fault left old new

-- It is, or memory was refused before.
abbrev pub IsNoRunOfText : (workers : ℕ) → (left : Option Text) → Fault → Type 0
IsNoRunOfText workers left fault = (fault ≡ Memory) ⊎ EndsRunOfText workers left fault

-- A picture may have gone out, or a part of it, if that is where it is to go; else nothing did. What picture it is, no clause says.
abbrev pub MayPrint : (printed : Bool) → (old new : Option Text) → Type 0
MayPrint true old new = (text : Text) × Appends old new text
MayPrint false old new = Keeps old new

-- There was a run, and its events are in the file for them; nothing is told.
pub record IsRunDrawn (workers : ℕ) (picture : PicturePlan) (events : Option Text) (left old new told_old told_new : Option Text) : Type 0 where
  pub run : JudgedRun
  pub is_run : IsRunOfText workers left run
  pub saved : IsSavedIfNamed events run.ran.net run.judged.events
  pub printed : MayPrint (is_printed picture) old new
  pub quiet : Keeps told_old told_new

-- There is a fault. What is told of the picture of a run, no clause says.
abbrev pub IsRunUndrawn : PicturePlan → (left old new told_old told_new : Option Text) → Type 0
IsRunUndrawn picture left old new told_old told_new = MayPrint (is_printed picture) old new

-- what such a run leaves over one reader
abbrev pub EndsRunDrawnOver : (workers : ℕ) → DrawCommand → (status : ℕ) → (left_old left_new old new told_old told_new : Option Text) → Type 0
EndsRunDrawnOver workers command = Ends TakesText (IsRunDrawn workers command.picture (option_map string_bytes command.events)) (IsRunUndrawn command.picture)

abbrev pub DrawsThreads : (workers : ℕ) → DrawCommand → (status : ℕ) → (left_old left_new old new told_old told_new : Option Text) → Type 0
DrawsThreads workers command =
    EndsOver (option_map string_bytes command.file) TellsUnopened TakesText
    (IsRunDrawn workers command.picture (option_map string_bytes command.events)) (IsRunUndrawn command.picture)
