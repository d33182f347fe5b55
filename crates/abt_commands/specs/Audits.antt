-- What `abt audit` leaves.
use Rattle.std.specs.Prelude.{◌≡◌, ◌⊎◌, ◌==◌, ⊤, ℕ, Bool, true, MatchBool, Any, List, [], ◌∷◌, length, Option, MatchOption, String, string_bytes, if◌then◌else◌}
use Rattle.std.specs.Option.{option_map}
use Rattle.std.specs.declared.alloc.Global.{Global}
use Rattle.std.specs.Io.KnownBytes.{Keeps}
use Rattle.abt_text.specs.Text.{Text}
use Rattle.abt_perform.specs.Names.{fault_line}
use Rattle.abt_perform.specs.Plans.{Tells}
use Rattle.abt_perform.specs.declared.fault.Fault.TheVariants.{Memory}
use Rattle.abt_audit.specs.Parts.{IsWovenPart, run_journals}
use Rattle.abt_audit.specs.Performing.{IsShownAs, IsNotShown}
use Rattle.abt_audit.specs.declared.auditing.AuditedRun.{AuditedRun}
use Rattle.abt_audit.specs.declared.form.Form.{Form}
use Rattle.abt_audit.specs.declared.form.Form.TheVariants.{Words, Json}
use Rattle.abt_audit.specs.declared.parting.WovenPart.{WovenPart}
use Rattle.abt_draw.specs.Drawn.{IsDrawn, TellsSome}
use Rattle.abt_plans.specs.declared.picture.PicturePlan.{PicturePlan}
use Rattle.abt_journal_text.specs.declared.run.Run.{Run}
use Rattle.abt_cli.specs.declared.command.AuditCommand.{AuditCommand}
use Rattle.abt_commands.specs.Ends.{Ends}
use Rattle.abt_commands.specs.Opening.{TellsUnopened}
use Rattle.abt_commands.specs.Saved.{IsSaved, IsSavedIfNamed, IsUnsavedIfNamed}

-- whether no file is named: then the journals are those of the input that is there
abbrev pub are_none : List (String Global) → Bool
are_none names = length names == 0

-- what an audit takes of the input that is there: nothing if files are named
abbrev pub TakesToAudit : List (String Global) → (old new : Option Text) → Type 0
TakesToAudit names old new = MatchBool (are_none names) ⊤ (Keeps old new)

-- what its readers had left: that of the input that is there, or some reader's for each file
abbrev pub AreLefts : List (String Global) → (left : Option Text) → List (Option Text) → Type 0
AreLefts names left lefts = MatchBool (are_none names) (lefts ≡ left ∷ []) (length lefts ≡ length names)

-- the form in which it is told what an audit finds
abbrev pub form_of : (json : Bool) → Form
form_of json = if json then Json else Words

-- The journals of the texts are shown to be those of this run, which is safe.
pub record IsAuditedAs (form : Form) (names : List (String Global)) (left old new : Option Text) (run : AuditedRun) : Type 0 where
  pub lefts : List (Option Text)
  pub are_lefts : AreLefts names left lefts
  pub shown : IsShownAs form lefts old new run

-- They aren't, which is told.
pub record IsUnshown (form : Form) (names : List (String Global)) (left old new told_old told_new : Option Text) : Type 0 where
  pub lefts : List (Option Text)
  pub are_lefts : AreLefts names left lefts
  pub not_shown : IsNotShown form names lefts old new told_old told_new

-- One of the files isn't opened, which is told with its name.
pub record IsOneUnopened (names : List (String Global)) (old new told_old told_new : Option Text) : Type 0 where
  pub name : Text
  pub is_named : Any (λ file. string_bytes file ≡ name) names
  pub silent : Keeps old new
  pub told : TellsUnopened name told_old told_new

-- Memory was refused for the reader of the input that is there.
pub record HasNoReader (names : List (String Global)) (old new told_old told_new : Option Text) : Type 0 where
  pub unnamed : are_none names ≡ true
  pub silent : Keeps old new
  pub told : Tells (fault_line Memory) told_old told_new

abbrev pub IsUnaudited : Form → List (String Global) → (left old new told_old told_new : Option Text) → Type 0
IsUnaudited form names left old new told_old told_new =
    IsUnshown form names left old new told_old told_new
    ⊎ IsOneUnopened names old new told_old told_new
    ⊎ HasNoReader names old new told_old told_new

-- the file for the events
abbrev pub events_file_of : AuditCommand → Option Text
events_file_of command = option_map string_bytes command.events

-- The journals are shown to be those of one safe run, and its events are in the file for them; nothing is told.
pub record IsAuditDone (command : AuditCommand) (left old new told_old told_new : Option Text) : Type 0 where
  pub run : AuditedRun
  pub audited : IsAuditedAs (form_of command.json) command.files.items left old new run
  pub saved : IsSavedIfNamed (events_file_of command) run.net run.audited.events
  pub quiet : Keeps told_old told_new

-- They are shown so, and its events aren't in the file for them, which is told.
pub record IsAuditUnsaved (command : AuditCommand) (left old new told_old told_new : Option Text) : Type 0 where
  pub run : AuditedRun
  pub audited : IsAuditedAs (form_of command.json) command.files.items left old new run
  pub between : Option Text
  pub quiet : Keeps told_old between
  pub unsaved : IsUnsavedIfNamed (events_file_of command) run.net run.audited.events between told_new

-- Maybe it is told why there is no file of the events before the journals got stuck, if one is named for them.
abbrev pub TellsUnsaved : (name : Option Text) → (old new : Option Text) → Type 0
TellsUnsaved name old new = MatchOption name (Keeps old new) (λ file. Keeps old new ⊎ TellsSome old new)

-- The events before a run's journals got stuck are in a file.
pub record IsPartSaved (run : Run) : Type 0 where
  pub part : WovenPart
  pub is_part : IsWovenPart run.net (run_journals run) part
  pub saved : IsSaved run.net part.events

-- They are in the file for them, if one is named.
abbrev pub IsPartSavedIfNamed : (name : Option Text) → Run → Type 0
IsPartSavedIfNamed name run = MatchOption name ⊤ (λ file. IsPartSaved run)

-- The journals aren't shown so, which is told.
pub record IsAuditUnshown (command : AuditCommand) (left old new told_old told_new : Option Text) : Type 0 where
  pub between : Option Text
  pub unaudited : IsUnaudited (form_of command.json) command.files.items left old new told_old between
  pub unsaved : TellsUnsaved (events_file_of command) between told_new

abbrev pub IsAuditRefused : AuditCommand → (left old new told_old told_new : Option Text) → Type 0
IsAuditRefused command left old new told_old told_new =
    IsAuditUnshown command left old new told_old told_new ⊎ IsAuditUnsaved command left old new told_old told_new

abbrev pub AuditsJournals : AuditCommand → (status : ℕ) → (left_old left_new old new told_old told_new : Option Text) → Type 0
AuditsJournals command = Ends (TakesToAudit command.files.items) (IsAuditDone command) (IsAuditRefused command)

-- The journals are shown to be those of one safe run, and its events or their picture aren't written.
pub record IsAuditUndrawn (command : AuditCommand) (left old new : Option Text) : Type 0 where
  pub run : AuditedRun
  pub audited : IsAuditedAs (form_of command.json) command.files.items left old new run

-- The journals aren't shown so, which is told, and behind it maybe why there is no file or no picture of the events before they got stuck.
pub record IsUnauditedFirst (command : AuditCommand) (left old new told_old told_new : Option Text) : Type 0 where
  pub first : Option Text
  pub unaudited : IsUnaudited (form_of command.json) command.files.items left old new told_old first
  pub second : Option Text
  pub unsaved : TellsUnsaved (events_file_of command) first second
  pub undrawn : Keeps second told_new ⊎ TellsSome second told_new

abbrev pub IsDrawnAuditRefused : AuditCommand → (left old new told_old told_new : Option Text) → Type 0
IsDrawnAuditRefused command left old new told_old told_new =
    IsUnauditedFirst command left old new told_old told_new ⊎ IsAuditUndrawn command left old new

abbrev pub DrawsAudit : AuditCommand → (status : ℕ) → (left_old left_new old new told_old told_new : Option Text) → Type 0
DrawsAudit command = Ends (TakesToAudit command.files.items) (IsAuditDone command) (IsDrawnAuditRefused command)

-- By whether the events are to be drawn.
abbrev pub Audits : AuditCommand → (status : ℕ) → (left_old left_new old new told_old told_new : Option Text) → Type 0
Audits command status left_old left_new old new told_old told_new = MatchOption command.picture
    (AuditsJournals command status left_old left_new old new told_old told_new)
    (λ picture. DrawsAudit command status left_old left_new old new told_old told_new)

-- The events before a run's journals got stuck are drawn.
pub record IsPartDrawn (picture : PicturePlan) (run : Run) : Type 0 where
  pub part : WovenPart
  pub is_part : IsWovenPart run.net (run_journals run) part
  pub drawn : IsDrawn picture run.net part.events
