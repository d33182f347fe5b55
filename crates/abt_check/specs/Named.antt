-- What is told of one file of several: its check, or why it isn't checked (docs/FORMATS.md, "Checks of files").
use Rattle.std.specs.Prelude.{◌≡◌, ◌⊎◌, ◌<◌, ◌≤◌, ⊤, ℕ, ◌&&◌, not, Bool, true, false, length, Some, codes}
use Rattle.std.specs.Str.{IsUtf8}
use Rattle.abt_files.specs.Shown.{shown}
use Rattle.abt_text.specs.Streams.{text_max}
use Rattle.abt_text.specs.Text.{Text}
use Rattle.abt_check.specs.Check.{IsCheckOf}
use Rattle.abt_check.specs.CheckObjects.{check_objects, unread_object}
use Rattle.abt_check.specs.Located.{check_lines, unread_line}
use Rattle.abt_check.specs.Performed.{has_some}
use Rattle.abt_check.specs.OutcomeWords.{is_empty}
use Rattle.abt_check.specs.Tests.{IsDiagnosis, mark_of, test_text}
use Rattle.abt_check.specs.declared.finding.Checked.{Checked}
use Rattle.abt_check.specs.declared.named.FileForm.{FileForm}
use Rattle.abt_check.specs.declared.named.FileForm.TheVariants.{Lines, Objects, Tests}
use Rattle.abt_check.specs.declared.named.FileSaid.{FileSaid}
use Rattle.abt_check.specs.declared.unread.Unread.{Unread}
use Rattle.abt_check.specs.declared.unread.Unread.TheVariants.{Read, TooLong, NotUtf8}

-- a file that isn't checked: its fault, and why; a line has the name as it is shown
abbrev pub named_unread : FileForm → (number : ℕ) → (name fault why : Text) → Text
named_unread Lines number name fault why = unread_line (shown name) fault why
named_unread Objects number name fault why = unread_object name fault why
named_unread (Tests count) number name fault why = test_text count number name false (unread_line (mark_of name) fault why)

-- the fault of a text that isn't checked, as `abt run` names it
abbrev pub unread_name : Unread → Text
unread_name Read = codes "read"
unread_name TooLong = codes "TooLong"
unread_name NotUtf8 = codes "NotUtf8"

-- and why, in words
abbrev pub unread_why : Unread → Text
unread_why Read = codes "the file can't be read"
unread_why TooLong = codes "the text has more than 16777216 octets"
unread_why NotUtf8 = codes "the text isn't UTF-8"

-- What keeps a text from being checked; of a reader that fails nothing is said.
abbrev pub KeepsUnread : Unread → Text → Type 0
KeepsUnread Read source = ⊤
KeepsUnread TooLong source = text_max < length source
KeepsUnread NotUtf8 source = (length source ≤ text_max) × (¬ IsUtf8 source)

-- It is told, as a fault, that the file isn't checked.
pub record IsUnreadSaid (form : FileForm) (number : ℕ) (name fault why : Text) (said : FileSaid) : Type 0 where
  pub told : said.octets.items ≡ named_unread form number name fault why
  pub faulty : said.is_faulty ≡ true

-- A check of the text is told in some way.
pub record IsCheckSaid (tell : (source : Text) → Checked → Text) (source : Text) (said : FileSaid) : Type 0 where
  pub checked : Checked
  pub is_check : IsCheckOf source checked
  pub told : said.octets.items ≡ tell source checked
  pub faulty : said.is_faulty ≡ has_some checked.faults.items

-- The test of what the text expects is told; there is a fault if a diagnosis is.
pub record IsTestSaid (count number : ℕ) (name source : Text) (said : FileSaid) : Type 0 where
  pub skipped : Bool
  pub diagnosis : Text
  pub found : IsDiagnosis (mark_of name) source skipped diagnosis
  pub told : said.octets.items ≡ test_text count number name skipped diagnosis
  pub faulty : said.is_faulty ≡ (not skipped && not (is_empty diagnosis))

-- The text is checked, or tested.
abbrev pub IsTextSaid : FileForm → (number : ℕ) → (name source : Text) → FileSaid → Type 0
IsTextSaid Lines number name source said = IsCheckSaid (check_lines (shown name)) source said
IsTextSaid Objects number name source said = IsCheckSaid (check_objects (Some name)) source said
IsTextSaid (Tests count) number name source said = IsTestSaid count number name source said

-- It is told why the text isn't checked.
pub record IsTextUnread (form : FileForm) (number : ℕ) (name source : Text) (said : FileSaid) : Type 0 where
  pub unread : Unread
  pub kept : KeepsUnread unread source
  pub told : IsUnreadSaid form number name (unread_name unread) (unread_why unread) said

-- What is told of the file of a name that has this text, and is the one of this number, from 1.
abbrev pub IsSaidOfFile : FileForm → (number : ℕ) → (name source : Text) → FileSaid → Type 0
IsSaidOfFile form number name source said = IsTextSaid form number name source said ⊎ IsTextUnread form number name source said
