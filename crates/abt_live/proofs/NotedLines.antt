-- Texts that say nothing of a source.
use Rattle.std.proofs.Common.{◌≡◌, ◌⊎◌, inl, inr, ℕ, List, refl, subst}
use Rattle.std.specs.Str.{IsUtf8, is_utf8}
use Rattle.std.proofs.lemmas.Str.{IsUtf8-from_is_utf8}
use Rattle.std.proofs.lemmas.Bool.{false_from_ne_true}
use Rattle.abt_entry.specs.Lines.{SaysNone}
use Rattle.abt_entry.specs.declared.fault.LineFault.{LineFault}
use Rattle.abt_entry.specs.declared.fault.LineFault.TheVariants.{Kind, Memory}
use Rattle.abt_live.specs.Past.{Notes}
use Rattle.abt_live.specs.declared.noted.Noted.TheVariants.{Nothing}

-- a text whose value is no line of journals
pub no_line : (text : List ℕ) (why : LineFault) → why ≡ Kind → (why ≡ Memory) ⊎ SaysNone text why → SaysNone text Kind
no_line text why is (inl memory) = (let kind = is in let other = memory in absurd (cc))
no_line text why is (inr none) = subst (λ w. SaysNone text w) is none

-- octets that are no text
pub no_text : (conn : ℕ) (octets : List ℕ) → (IsUtf8 octets → ⊥) → Notes conn octets Nothing
no_text conn octets invalid =
    inr (inr (refl, inl (false_from_ne_true (is_utf8 octets) (λ e. invalid (IsUtf8-from_is_utf8 octets e)))))
