-- Texts that are read one after the other.
use Rattle.std.proofs.Common.{◌≡◌, ◌⊎◌, inl, inr, ℕ, ◌+◌, List, ◌∷◌, Option, subst, sym}
use Rattle.abt_text.specs.Text.{Text}
use Rattle.abt_journal_text.specs.Books.{Told}
use Rattle.abt_journal_text.specs.Entering.{IsOwn}
use Rattle.abt_journal_text.specs.Texts.{IsRead, IsUnread}
use Rattle.abt_journal_text.specs.declared.fault.TextFault.{TextFault}
use Rattle.abt_audit.specs.Audits.{AreRead, IsUnreadAmong}

-- What is read of the texts that are left, or isn't, is read of all, or isn't.
pub record GoesOn (first_number : ℕ) (first : Told) (all : List (Option Text)) (number : ℕ) (told : Told) (left : List (Option Text)) : Type 0 where
  pub reads : (after : Told) → AreRead number told left after → AreRead first_number first all after
  pub fails : (fault : TextFault) → IsUnreadAmong number told left fault → IsUnreadAmong first_number first all fault

pub text_goes_on : (m n : ℕ) (first told next : Told) (all rest : List (Option Text)) (left : Option Text) → GoesOn m first all n told (left ∷ rest)
    → IsRead n told next left → GoesOn m first all (n + 1) next rest
text_goes_on m n first told next all rest left g r = record {
  reads = λ after more. g.reads after (next, r, more);
  fails = λ fault more. g.fails fault (inr (next, r, more));
}

pub text_fails : (m n : ℕ) (first told : Told) (all rest : List (Option Text)) (left : Option Text) (fault : TextFault) → GoesOn m first all n told (left ∷ rest)
    → IsOwn fault.cause ⊎ IsUnread n told fault left → IsOwn fault.cause ⊎ IsUnreadAmong m first all fault
text_fails m n first told all rest left fault g (inl own) = inl own
text_fails m n first told all rest left fault g (inr f) = inr (g.fails fault (inl f))

pub texts_stay : (m : ℕ) (first : Told) (all : List (Option Text)) → GoesOn m first all m first all
texts_stay m first all = record { reads = λ after r. r; fails = λ fault f. f }

pub texts_begin : (m : ℕ) (first told : Told) (all : List (Option Text)) → told ≡ first → GoesOn m first all m told all
texts_begin m first told all is = subst (λ (t : Told). GoesOn m first all m t all) (sym is) (texts_stay m first all)
