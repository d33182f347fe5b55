-- What a command leaves that reads a text whole, does something with it, and tells something behind that.
use Rattle.std.specs.Prelude.{◌≡◌, ◌⊎◌, ◌++◌, Option, Some, IfSome, codes}
use Rattle.std.specs.Io.KnownBytes.{Keeps}
use Rattle.abt_text.specs.Text.{Text}
use Rattle.abt_text.specs.declared.reading.TextFault.{TextFault}
use Rattle.abt_text.specs.declared.reading.TextFault.TheVariants as text
use Rattle.abt_perform.specs.Names.{fault_line}
use Rattle.abt_perform.specs.Plans.{Tells}
use Rattle.abt_perform.specs.declared.fault.Fault.TheVariants.{Read, TooLong, Memory}

-- That was done with a text, and then this was told of it.
pub record IsOfText (Did : (left old new told_old told_new : Option Text) → Type 0) (Besides : (source : Text) → (old new : Option Text) → Type 0)
    (source : Text) (old new told_old told_new : Option Text) : Type 0 where
  pub between : Option Text
  pub did : Did (Some source) old new told_old between
  pub besides : Besides source between told_new

-- That was done with the text that a reader had left, and then this was told of it.
pub record IsDone (Did : (left old new told_old told_new : Option Text) → Type 0) (Besides : (source : Text) → (old new : Option Text) → Type 0)
    (left old new told_old told_new : Option Text) : Type 0 where
  pub source : Text
  pub is_left : IfSome left (λ octets. source ≡ octets)
  pub of_text : IsOfText Did Besides source old new told_old told_new

-- why a text wasn't read, and how long one may be
abbrev pub unread_line : TextFault → Text
unread_line text.Read = fault_line Read
unread_line text.TooLong = fault_line TooLong ++ codes "a text may have at most 16777216 octets\n"
unread_line text.Memory = fault_line Memory

-- No text was read, which is told.
pub record IsUnread (left old new told_old told_new : Option Text) : Type 0 where
  pub fault : TextFault
  pub silent : Keeps old new
  pub told : Tells (unread_line fault) told_old told_new

-- Or it was, and then this was told.
abbrev pub IsUndone : (Refused : (left old new told_old told_new : Option Text) → Type 0) → (Besides : (source : Text) → (old new : Option Text) → Type 0)
    → (left old new told_old told_new : Option Text) → Type 0
IsUndone Refused Besides left old new told_old told_new =
    IsUnread left old new told_old told_new ⊎ IsDone Refused Besides left old new told_old told_new
