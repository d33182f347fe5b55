-- What is told of a switch or a source that doesn't answer all lines (docs/LIVE.md, "Faults of files").
use Rattle.std.specs.Prelude.{ℕ, List, [], ◌∷◌, Option, codes}
use Rattle.std.specs.Io.KnownBytes.{Keeps}
use Rattle.abt_files.specs.Shown.{shown}
use Rattle.abt_text.specs.Text.{Text, decimal, newline}
use Rattle.abt_lines.specs.declared.fault.LinesFault.{LinesFault}
use Rattle.abt_lines.specs.declared.fault.LinesFault.TheVariants as lines
use Rattle.abt_disk.specs.declared.fault.OpenFault.{OpenFault}
use Rattle.abt_disk.specs.declared.fault.OpenFault.TheVariants.{Disk, Format, Version, Damaged}
use Rattle.abt_disk.specs.declared.file_fault.FileFault.{FileFault}
use Rattle.abt_disk.specs.declared.file_fault.FileFault.TheVariants as file
use Rattle.abt_perform.specs.Names.{fault_line, fault_of_engine}
use Rattle.abt_perform.specs.Plans.{Tells}
use Rattle.abt_perform.specs.declared.fault.Fault.{Fault}
use Rattle.abt_perform.specs.declared.fault.Fault.TheVariants.{Read, TooLong, Write, Memory}
use Rattle.abt_live.specs.declared.serving.ServeFault.TheVariants.{Journal as JournalFails, Lines}
use Rattle.abt_live_files.specs.declared.fault.LiveStop.{LiveStop}
use Rattle.abt_live_files.specs.declared.fault.LiveStop.TheVariants.{Scenario, Port, Connection, Store, Journal, Serving}
use Rattle.abt_live_files.specs.declared.journal_fault.JournalFault.{JournalFault}
use Rattle.abt_live_files.specs.declared.journal_fault.JournalFault.TheVariants as journal

-- the program's fault for one of the lines
abbrev pub fault_of_lines : LinesFault → Fault
fault_of_lines lines.Read = Read
fault_of_lines lines.TooLong = TooLong
fault_of_lines lines.Write = Write
fault_of_lines lines.Memory = Memory

abbrev pub block_words : OpenFault → Text
block_words (Disk fault) = codes "the disk failed"
block_words Format = codes "it is no store of a source"
block_words (Version number) = codes "it is a store of another version"
block_words Damaged = codes "it is damaged"

abbrev pub store_words : FileFault → Text
store_words file.Missing = codes "there is no such store, or no such folder; --new makes a store in a folder that is there"
store_words file.Exists = codes "it is there already; without --new it is used"
store_words file.Unfinished = codes "a file of its name with .new is there, which was left or is being made"
store_words file.NotAFile = codes "it is no regular file"
store_words (file.Length octets) = codes "it hasn't the 16384 octets of a store"
store_words file.Busy = codes "another process uses it"
store_words file.Denied = codes "its rights, or those of its folder or its disk, don't let it be read and written"
store_words file.Full = codes "the disk is full"
store_words file.Device = codes "the disk failed"
store_words (file.Blocks fault) = block_words fault
store_words file.Memory = codes "no memory was found"

abbrev pub journal_words : JournalFault → Text
journal_words journal.Missing = codes "there is no such journal; --new begins one"
journal_words journal.NoFolder = codes "there is no such folder"
journal_words journal.Used = codes "it has lines already, and a new source has none"
journal_words journal.Ended = codes "it is there already; a switch that ended lost its reservations: end its sources, and begin all with new journals"
journal_words journal.Busy = codes "another process uses it"
journal_words journal.Forbidden = codes "its rights, or those of its disk, don't let it be read and written"
journal_words journal.Folder = codes "it is a folder"
journal_words journal.Full = codes "the disk is full"
journal_words journal.Unread = codes "it can't be read"
journal_words journal.Unwritten = codes "it can't be written"
journal_words journal.Foreign = codes "it is no journal of this source"
journal_words journal.Past = codes "it tells more cells than fit before its last moment"
journal_words journal.Other = codes "the system doesn't open it"
journal_words journal.Memory = codes "no memory was found"

-- the line of a fault, and behind it a name as it is shown, and why
abbrev pub named_pieces : (line name words : Text) → List Text
named_pieces line name words = line ∷ shown name ∷ codes ": " ∷ words ∷ newline ∷ []

-- and behind it a number and why
abbrev pub numbered_pieces : (line : Text) → (number : ℕ) → (words : Text) → List Text
numbered_pieces line number words = line ∷ decimal number ∷ words ∷ []

-- what is told of a store and of a journal; want of memory is told alone
abbrev pub store_pieces : (name : Text) → FileFault → List Text
store_pieces name file.Memory = fault_line Memory ∷ []
store_pieces name fault = named_pieces (codes "fault: store\n") name (store_words fault)

abbrev pub journal_pieces : (name : Text) → JournalFault → List Text
journal_pieces name journal.Memory = fault_line Memory ∷ []
journal_pieces name fault = named_pieces (codes "fault: journal\n") name (journal_words fault)

-- what is told of the reason why not all lines are answered
abbrev pub stop_pieces : (store journal : Text) → LiveStop → List Text
stop_pieces store name (Scenario fault) = fault_line (fault_of_engine fault) ∷ []
stop_pieces store name (Port id) = numbered_pieces (codes "fault: port\n") id (codes ": the net has no such port\n")
stop_pieces store name (Connection conn) = numbered_pieces (codes "fault: connection\n") conn (codes ": the net has no such connection\n")
stop_pieces store name (Store fault) = store_pieces store fault
stop_pieces store name (Journal fault) = journal_pieces name fault
stop_pieces store name (Serving JournalFails) = journal_pieces name journal.Unwritten
stop_pieces store name (Serving (Lines fault)) = fault_line (fault_of_lines fault) ∷ []

-- Some texts were told one behind the other, each as far as the writer took it.
abbrev pub TellsEach : List Text → (old new : Option Text) → Type 0
TellsEach [] old new = Keeps old new
TellsEach (text ∷ []) old new = Tells text old new
TellsEach (text ∷ next ∷ texts) old new = (between : Option Text) × Tells text old between × TellsEach (next ∷ texts) between new
