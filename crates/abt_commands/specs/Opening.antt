-- What is told of a file that can't be opened or read: its fault, and behind it its name and why (docs/FORMATS.md, "Checks").
use Rattle.std.specs.Prelude.{List, [], ◌∷◌, Option, codes}
use Rattle.std.specs.Io.KnownBytes.{Keeps}
use Rattle.std.specs.declared.io.ErrorKind.{ErrorKind}
use Rattle.std.specs.declared.io.ErrorKind.TheVariants as kind
use Rattle.abt_text.specs.Text.{Text, ◌⋅◌, newline}
use Rattle.abt_files.specs.Shown.{shown}
use Rattle.abt_perform.specs.Names.{fault_line}
use Rattle.abt_perform.specs.Plans.{Tells}
use Rattle.abt_perform.specs.declared.fault.Fault.TheVariants as fault
use Rattle.abt_commands.specs.declared.opening.Why.{Why}
use Rattle.abt_commands.specs.declared.opening.Why.TheVariants.{Memory, Missing, Forbidden, Folder, ThroughFile, Name, Circle, Other}

-- why a file isn't opened, by what the error is to the system
abbrev pub why_of : ErrorKind → Why
why_of kind.OutOfMemory = Memory
why_of kind.NotFound = Missing
why_of kind.PermissionDenied = Forbidden
why_of kind.IsADirectory = Folder
why_of kind.NotADirectory = ThroughFile
why_of kind.InvalidFilename = Name
why_of kind.InvalidInput = Name
why_of kind.FilesystemLoop = Circle
why_of _ = Other

-- the line of a file that isn't opened
abbrev pub open_line : Text
open_line = codes "fault: open" ⋅ newline

-- the line of the fault: a folder is opened, and then can't be read
abbrev pub unopened_line : Why → Text
unopened_line Memory = fault_line fault.Memory
unopened_line Folder = fault_line fault.Read
unopened_line why = open_line

-- the name of that fault
abbrev pub unopened_name : Why → Text
unopened_name Memory = codes "memory"
unopened_name Folder = codes "read"
unopened_name why = codes "open"

abbrev pub why_words : Why → Text
why_words Memory = codes "memory was refused"
why_words Missing = codes "there is no such file"
why_words Forbidden = codes "it may not be read"
why_words Folder = codes "it is a folder"
why_words ThroughFile = codes "its path goes through a file"
why_words Name = codes "the system takes no such name"
why_words Circle = codes "its links go round in a circle"
why_words Other = codes "the system doesn't open it"

-- the fault, and behind it the file's name as it is shown, and why it can't be read
abbrev pub unopened_pieces : (name : Text) → Why → List Text
unopened_pieces name why = unopened_line why ∷ shown name ∷ codes ": " ∷ why_words why ∷ newline ∷ []

-- what is told of a file: want of memory alone
abbrev pub told_pieces : (name : Text) → Why → List Text
told_pieces name Memory = fault_line fault.Memory ∷ []
told_pieces name why = unopened_pieces name why

-- Some texts were told one behind the other, each as far as the writer took it.
abbrev pub TellsEach : List Text → (old new : Option Text) → Type 0
TellsEach [] old new = Keeps old new
TellsEach (text ∷ []) old new = Tells text old new
TellsEach (text ∷ next ∷ texts) old new = (between : Option Text) × Tells text old between × TellsEach (next ∷ texts) between new

-- The fault was told, with the name and the reason, which is the system's to say.
pub record TellsUnopened (name : Text) (old new : Option Text) : Type 0 where
  pub why : Why
  pub told : TellsEach (told_pieces name why) old new

-- The fault was told, and nothing else.
pub record TellsOpenFault (name : Text) (old new : Option Text) : Type 0 where
  pub why : Why
  pub told : Tells (unopened_line why) old new
