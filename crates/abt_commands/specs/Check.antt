-- What a check leaves.
use Rattle.std.specs.Prelude.{◌≡◌, ◌⊎◌, ◌||◌, ℕ, nat_lt, max, if◌then◌else◌, Bool, true, false, MatchBool, List, [], ◌∷◌, length, Option, Some, None, IfSome, String, codes, string_bytes}
use Rattle.std.specs.declared.alloc.Global.{Global}
use Rattle.std.specs.Io.KnownBytes.{Keeps}
use Rattle.abt_text.specs.Text.{Text}
use Rattle.abt_check.specs.Named.{IsSaidOfFile}
use Rattle.abt_check.specs.Performed.{Answers, IsFaulty}
use Rattle.abt_check.specs.declared.named.FileForm.{FileForm}
use Rattle.abt_check.specs.declared.named.FileForm.TheVariants.{Lines, Objects, Tests}
use Rattle.abt_check.specs.declared.named.FileSaid.{FileSaid}
use Rattle.abt_cli.specs.declared.command.CheckCommand.{CheckCommand}
use Rattle.abt_perform.specs.Names.{fault_line}
use Rattle.abt_perform.specs.Plans.{Tells}
use Rattle.abt_perform.specs.declared.fault.Fault.{Fault}
use Rattle.abt_commands.specs.Audits.{are_none}
use Rattle.abt_commands.specs.CheckedFiles.{ChecksEach, IsTold, IsUntold}
use Rattle.abt_commands.specs.Ends.{Ends, EndsOver, Quietly, TakesText}
use Rattle.abt_commands.specs.Opening.{TellsUnopened}

-- how many texts are checked: that of the input that is there, if no file is named
abbrev pub texts_of : List (String Global) → ℕ
texts_of names = max 1 (length names)

-- how files are told that are named
abbrev pub form_of : CheckCommand → FileForm
form_of command =
    if command.expect then Tests (texts_of command.files.items)
    else if command.json then Objects
    else Lines

-- Whether each line names its file: if there are several, it is asked for, or they are tested.
abbrev pub names_files : CheckCommand → Bool
names_files command = command.expect || command.located || nat_lt 1 (length command.files.items)

-- the first file, if there is one
abbrev pub first_of : List (String Global) → Option Text
first_of [] = None
first_of (file ∷ files) = Some (string_bytes file)

-- A check without a fault went out, all of it; or there is a fault, which is told.
abbrev pub ChecksAlone : (file : Option Text) → (json : Bool) → (status : ℕ)
    → (left_old left_new old new told_old told_new : Option Text) → Type 0
ChecksAlone file json = EndsOver file TellsUnopened TakesText (Quietly (Answers json false)) (IsFaulty json)

-- what is said of the input that is there, whose name is `-`
abbrev pub IsSaidOfInput : FileForm → (left : Option Text) → FileSaid → Type 0
IsSaidOfInput form left said = IfSome left (λ source. IsSaidOfFile form 1 (codes "-") source said)

-- The check of the input that is there went out, or wasn't told, or not whole, which is told.
abbrev pub ChecksHere : FileForm → (status : ℕ) → (left_old left_new old new told_old told_new : Option Text) → Type 0
ChecksHere form = Ends TakesText
    (Quietly (λ left. IsTold (IsSaidOfInput form left) false))
    (λ left old new told_old told_new. (IsTold (IsSaidOfInput form left) true old new × Keeps told_old told_new)
    ⊎ ((fault : Fault) × IsUntold (IsSaidOfInput form left) fault old new × Tells (fault_line fault) told_old told_new))

-- Without a file that of the input that is there; else of each file, and nothing of the input is taken.
abbrev pub ChecksNamed : FileForm → List (String Global) → (status : ℕ)
    → (left_old left_new old new told_old told_new : Option Text) → Type 0
ChecksNamed form names status left_old left_new old new told_old told_new = MatchBool (are_none names)
    (ChecksHere form status left_old left_new old new told_old told_new)
    (Keeps left_old left_new × ChecksEach form names status old new told_old told_new)

abbrev pub Checks : CheckCommand → (status : ℕ) → (left_old left_new old new told_old told_new : Option Text) → Type 0
Checks command status left_old left_new old new told_old told_new = MatchBool (names_files command)
    (ChecksNamed (form_of command) command.files.items status left_old left_new old new told_old told_new)
    (ChecksAlone (first_of command.files.items) command.json status left_old left_new old new told_old told_new)
