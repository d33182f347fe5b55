-- What is told of several files that are checked, one behind the other (docs/FORMATS.md, "Checks of files").
use Rattle.std.specs.Prelude.{◌≡◌, ◌⊎◌, ◌||◌, ℕ, ◌+◌, Bool, true, false, List, [], ◌∷◌, take, drop, Option, IfSome, String, codes, string_bytes}
use Rattle.std.specs.declared.alloc.Global.{Global}
use Rattle.std.specs.Io.KnownBytes.{Appends, Keeps}
use Rattle.abt_text.specs.Streams.{AppendsPrefix}
use Rattle.abt_text.specs.Text.{Text}
use Rattle.abt_check.specs.Named.{IsSaidOfFile, IsUnreadSaid}
use Rattle.abt_check.specs.declared.named.FileForm.{FileForm}
use Rattle.abt_check.specs.declared.named.FileSaid.{FileSaid}
use Rattle.abt_perform.specs.Names.{fault_line}
use Rattle.abt_perform.specs.Plans.{Tells}
use Rattle.abt_perform.specs.declared.fault.Fault.{Fault}
use Rattle.abt_perform.specs.declared.fault.Fault.TheVariants.{Write, Memory}
use Rattle.abt_commands.specs.Opening.{unopened_name, why_words}
use Rattle.abt_commands.specs.declared.opening.Why.{Why}

-- It is said of the text that some reader had left.
pub record IsReadSaid (form : FileForm) (number : ℕ) (name : Text) (said : FileSaid) : Type 0 where
  pub left : Option Text
  pub of_text : IfSome left (λ source. IsSaidOfFile form number name source said)

-- It is said why the file isn't opened, which is the system's to say.
pub record IsUnopenedSaid (form : FileForm) (number : ℕ) (name : Text) (said : FileSaid) : Type 0 where
  pub why : Why
  pub told : IsUnreadSaid form number name (unopened_name why) (why_words why) said

-- what is said of the file of a name, which is that of this number, from 1
abbrev pub IsSaidOf : FileForm → (number : ℕ) → (name : Text) → FileSaid → Type 0
IsSaidOf form number name said = IsReadSaid form number name said ⊎ IsUnopenedSaid form number name said

-- Such a text went out, and has a fault or none.
pub record IsTold (Says : FileSaid → Type 0) (faulty : Bool) (old new : Option Text) : Type 0 where
  pub said : FileSaid
  pub says : Says said
  pub is_faulty : faulty ≡ said.is_faulty
  pub written : Appends old new said.octets.items

-- Memory was refused, and nothing went out; or not all of such a text could be written.
abbrev pub IsUntold : (Says : FileSaid → Type 0) → Fault → (old new : Option Text) → Type 0
IsUntold Says fault old new =
    ((fault ≡ Memory) × Keeps old new)
    ⊎ ((fault ≡ Write) × ((said : FileSaid) × Says said × AppendsPrefix old new said.octets.items))

-- Each file was told, in their order, the first of this number; there is a fault if one of them has one.
abbrev pub AreTold : FileForm → (number : ℕ) → List (String Global) → (faulty : Bool) → (old new : Option Text) → Type 0
AreTold form number [] faulty old new = (faulty ≡ false) × Keeps old new
AreTold form number (name ∷ names) faulty old new =
    (first : Bool) × (others : Bool) × (between : Option Text) × (faulty ≡ first || others)
    × IsTold (IsSaidOf form number (string_bytes name)) first old between × AreTold form (number + 1) names others between new

-- The files before one were told, and that one wasn't, or not whole; none behind it is told.
pub record AreToldPart (form : FileForm) (names : List (String Global)) (fault : Fault) (old new : Option Text) : Type 0 where
  pub count : ℕ
  pub name : String Global
  pub others : List (String Global)
  pub stands : drop count names ≡ name ∷ others
  pub faulty : Bool
  pub between : Option Text
  pub before : AreTold form 1 (take count names) faulty old between
  pub untold : IsUntold (IsSaidOf form (count + 1) (string_bytes name)) fault between new

-- Status 0: each file was told, and none has a fault, or status 1: one has. Nothing else is told. Or a line tells why not all are told.
pub record ChecksEach (form : FileForm) (names : List (String Global)) (status : ℕ) (old new told_old told_new : Option Text) : Type 0 where
  pub status_is : (status ≡ 0) ⊎ (status ≡ 1)
  pub done : status ≡ 0 → AreTold form 1 names false old new × Keeps told_old told_new
  pub refused : status ≡ 1 → (AreTold form 1 names true old new × Keeps told_old told_new)
      ⊎ ((fault : Fault) × AreToldPart form names fault old new × Tells (fault_line fault) told_old told_new)
