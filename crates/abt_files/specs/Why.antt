-- Why a file isn't written.
use Rattle.std.specs.Prelude.{codes}
use Rattle.std.specs.declared.io.ErrorKind.{ErrorKind}
use Rattle.std.specs.declared.io.ErrorKind.TheVariants as kind
use Rattle.abt_text.specs.Text.{Text}
use Rattle.abt_files.specs.declared.why.Why.{Why}
use Rattle.abt_files.specs.declared.why.Why.TheVariants.{Memory, Missing, Forbidden, Closed, Folder, ThroughFile, Name, Circle, Crowded, Full, TooLong, Locked, Other}

-- why a file isn't written, by what the error is to the system
abbrev pub why_of : ErrorKind → Why
why_of kind.OutOfMemory = Memory
why_of kind.NotFound = Missing
why_of kind.PermissionDenied = Forbidden
why_of kind.IsADirectory = Folder
why_of kind.NotADirectory = ThroughFile
why_of kind.InvalidFilename = Name
why_of kind.InvalidInput = Name
why_of kind.FilesystemLoop = Circle
why_of kind.StorageFull = Full
why_of kind.QuotaExceeded = Full
why_of kind.FileTooLarge = TooLong
why_of kind.ReadOnlyFilesystem = Locked
why_of _ = Other

-- the same where a file is made in a folder: it is the folder that takes none
abbrev pub why_unmade : ErrorKind → Why
why_unmade kind.PermissionDenied = Closed
why_unmade other = why_of other

-- the words for it
abbrev pub unwritten_words : Why → Text
unwritten_words Memory = codes "there is no memory for it"
unwritten_words Missing = codes "its folder isn't there"
unwritten_words Forbidden = codes "it may not be written"
unwritten_words Closed = codes "its folder takes no new file"
unwritten_words Folder = codes "it is a folder"
unwritten_words ThroughFile = codes "its path goes through a file"
unwritten_words Name = codes "the system takes no such name"
unwritten_words Circle = codes "its links go round in a circle"
unwritten_words Crowded = codes "its folder has the files .abt.0.part to .abt.999.part: remove them"
unwritten_words Full = codes "there is no room on its disk"
unwritten_words TooLong = codes "it may not be so long"
unwritten_words Locked = codes "its disk may only be read"
unwritten_words Other = codes "the system doesn't write it"
