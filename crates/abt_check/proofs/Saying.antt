-- What is said of a file is said of the text that its reader had left.
use Rattle.std.proofs.Common.{◌≡◌, ◌≤◌, ℕ, Option, None, Some, Result, Ok, Err, inl, inr, length, subst}
use Rattle.std.specs.Str.{IsUtf8}
use Rattle.abt_text.specs.Streams.{text_max}
use Rattle.std.specs.Prelude.{IfOk, IfSome}
use Rattle.abt_text.specs.Text.{Text}
use Rattle.abt_check.specs.Named.{IsSaidOfFile, IsTextSaid, IsUnreadSaid, KeepsUnread, unread_name, unread_why}
use Rattle.abt_check.specs.declared.named.FileForm.{FileForm}
use Rattle.abt_check.specs.declared.named.FileSaid.{FileSaid}
use Rattle.abt_check.specs.declared.unread.Unread.{Unread}
use Rattle.abt_check.specs.declared.unread.Unread.TheVariants.{NotUtf8}

-- octets that are no UTF-8 are no text
pub not_text : (left : Option Text) (octets : Text) → IfSome left (λ source. octets ≡ source) → length octets ≤ text_max → ¬ (IsUtf8 octets)
    → IfSome left (KeepsUnread NotUtf8)
not_text None octets same short broken = tt
not_text (Some source) octets same short broken = subst (λ text. (length text ≤ text_max) × (¬ (IsUtf8 text))) same (short, broken)

pub unread_said : {E : Type 0} (form : FileForm) (number : ℕ) (name : Text) (left : Option Text) (unread : Unread) (result : Result FileSaid E)
    → IfOk result (IsUnreadSaid form number name (unread_name unread) (unread_why unread)) → IfSome left (KeepsUnread unread)
    → IfOk result (λ said. IfSome left (λ source. IsSaidOfFile form number name source said))
unread_said form number name None unread (Ok said) told kept = tt
unread_said form number name (Some source) unread (Ok said) told kept = inr (record { unread = unread; kept = kept; told = told })
unread_said form number name left unread (Err fault) told kept = tt
