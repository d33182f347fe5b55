-- What `abt audit --port` and `--source` leave.
use Rattle.std.specs.Prelude.{◌⊎◌, ℕ, List, Option, String}
use Rattle.std.specs.declared.alloc.Global.{Global}
use Rattle.abt_text.specs.Text.{Text}
use Rattle.abt_audit.specs.OneLogShown.{IsLogNotShown, IsLogShown}
use Rattle.abt_cli.specs.declared.command.LogCommand.{LogCommand}
use Rattle.abt_commands.specs.Audits.{AreLefts, HasNoReader, IsOneUnopened, TakesToAudit, form_of}
use Rattle.abt_commands.specs.Ends.{Ends, Quietly}

-- The log is shown to obey.
pub record IsLogAudited (command : LogCommand) (left old new : Option Text) : Type 0 where
  pub lefts : List (Option Text)
  pub are_lefts : AreLefts command.files.items left lefts
  pub shown : IsLogShown (form_of command.json) lefts command.actor old new

-- It isn't, which is told.
pub record IsLogUnshown (command : LogCommand) (left old new told_old told_new : Option Text) : Type 0 where
  pub lefts : List (Option Text)
  pub are_lefts : AreLefts command.files.items left lefts
  pub not_shown : IsLogNotShown (form_of command.json) command.files.items lefts command.actor old new told_old told_new

abbrev pub IsLogRefused : LogCommand → (left old new told_old told_new : Option Text) → Type 0
IsLogRefused command left old new told_old told_new =
    IsLogUnshown command left old new told_old told_new
    ⊎ IsOneUnopened command.files.items old new told_old told_new
    ⊎ HasNoReader command.files.items old new told_old told_new

abbrev pub AuditsLog : LogCommand → (status : ℕ) → (left_old left_new old new told_old told_new : Option Text) → Type 0
AuditsLog command = Ends (TakesToAudit command.files.items) (Quietly (IsLogAudited command)) (IsLogRefused command)
