-- What a run in threads leaves that is told as JSON (docs/FORMATS.md, "JSON").
use Rattle.std.specs.Prelude.{◌≡◌, ◌⊎◌, ℕ, [], Option, string_bytes}
use Rattle.std.specs.Option.{option_map}
use Rattle.std.specs.Io.KnownBytes.{Appends, Keeps}
use Rattle.abt_text.specs.Streams.{AppendsPrefix}
use Rattle.abt_text.specs.Text.{Text}
use Rattle.abt_json.specs.Explained.{IsExplainedJson}
use Rattle.abt_perform.specs.Names.{fault_line}
use Rattle.abt_perform.specs.Plans.{Tells}
use Rattle.abt_perform.specs.declared.fault.Fault.{Fault}
use Rattle.abt_perform.specs.declared.fault.Fault.TheVariants.{Memory, Write}
use Rattle.abt_perform_threads.specs.declared.performing.JudgedRun.{JudgedRun}
use Rattle.abt_cli.specs.declared.command.ThreadsCommand.{ThreadsCommand}
use Rattle.abt_commands.specs.DrawsThreads.{IsNoRunOfText, IsRunOfText}
use Rattle.abt_commands.specs.Ends.{Ends, EndsOver, Quietly, TakesText}
use Rattle.abt_commands.specs.Opening.{TellsUnopened}

-- The text explains the events of a run, which come from no lines of a file.
abbrev pub AreObjectsOf : JudgedRun → Text → Type 0
AreObjectsOf run text = IsExplainedJson run.ran.net [] run.judged.events text

-- The objects of a run went out, and nothing else.
pub record SaysRun (run : JudgedRun) (old new : Option Text) : Type 0 where
  pub text : Text
  pub are_objects : AreObjectsOf run text
  pub written : Appends old new text

-- A part of them went out, from its beginning, and not all of it.
pub record SaysRunPart (run : JudgedRun) (old new : Option Text) : Type 0 where
  pub text : Text
  pub are_objects : AreObjectsOf run text
  pub written : AppendsPrefix old new text

-- what went out of a run that isn't said for this fault: a part if the output failed, and else nothing
abbrev pub EndsSaying : JudgedRun → Fault → (old new : Option Text) → Type 0
EndsSaying run fault old new = ((fault ≡ Write) × SaysRunPart run old new) ⊎ ((fault ≡ Memory) × Keeps old new)

-- A run of the scenario that a reader had left, of which all objects went out.
pub record IsRunSaid (workers : ℕ) (left old new : Option Text) : Type 0 where
  pub run : JudgedRun
  pub is_run : IsRunOfText workers left run
  pub says : SaysRun run old new

-- A run whose objects didn't all go out.
pub record IsRunUnsaid (workers : ℕ) (fault : Fault) (left old new : Option Text) : Type 0 where
  pub run : JudgedRun
  pub is_run : IsRunOfText workers left run
  pub ends : EndsSaying run fault old new

-- There is no run for this fault, and nothing went out, or not all of its objects did.
abbrev pub IsNoneSaid : (workers : ℕ) → Fault → (left old new : Option Text) → Type 0
IsNoneSaid workers fault left old new = (IsNoRunOfText workers left fault × Keeps old new) ⊎ IsRunUnsaid workers fault left old new

-- That was told.
pub record IsUnsaid (workers : ℕ) (left old new told_old told_new : Option Text) : Type 0 where
  pub fault : Fault
  pub ends : IsNoneSaid workers fault left old new
  pub told : Tells (fault_line fault) told_old told_new

-- what such a run leaves over one reader
abbrev pub EndsSaidOver : (workers : ℕ) → (status : ℕ) → (left_old left_new old new told_old told_new : Option Text) → Type 0
EndsSaidOver workers = Ends TakesText (Quietly (IsRunSaid workers)) (IsUnsaid workers)

abbrev pub SaysThreads : ThreadsCommand → (status : ℕ) → (left_old left_new old new told_old told_new : Option Text) → Type 0
SaysThreads command =
    EndsOver (option_map string_bytes command.file) TellsUnopened TakesText (Quietly (IsRunSaid command.workers))
    (IsUnsaid command.workers)
