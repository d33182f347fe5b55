-- Lines that are text, or aren't, and lines of too many words.
use Rattle.std.proofs.Common.{◌≡◌, ◌∙◌, ℕ, ◌<◌, List, [], ◌∷◌, Bool, true, false, refl, sym, ap, length, arith}
use Rattle.std.specs.Prelude.{if◌then◌else◌, codes}
use Rattle.std.specs.Str.{IsUtf8, bytes_eq, is_utf8}
use Rattle.std.proofs.lemmas.Str.{IsUtf8-from_is_utf8, is_utf8-from_IsUtf8}
use Rattle.std.proofs.lemmas.Bool.{false_from_ne_true}
use Rattle.abt_live.specs.SwitchAsked as switch
use Rattle.abt_live.specs.SourceAsked as source
use Rattle.abt_live.specs.declared.fault.LiveFault.TheVariants.{NotUtf8, Words}
use Rattle.abt_live.specs.declared.switch_asked.SwitchAsked.TheVariants as of_switch
use Rattle.abt_live.specs.declared.source_asked.SourceAsked.TheVariants as of_source

-- a line is text, or isn't
pub switch_text : (octets text : List ℕ) → text ≡ octets → IsUtf8 octets → switch.asked_by text ≡ switch.asked_in octets
switch_text octets text is valid =
    ap switch.asked_by is
    ∙ sym (ap (λ (b : Bool). if b then switch.asked_by octets else of_switch.Wrong NotUtf8) (is_utf8-from_IsUtf8 octets valid))

pub switch_no_text : (octets : List ℕ) → (IsUtf8 octets → ⊥) → of_switch.Wrong NotUtf8 ≡ switch.asked_in octets
switch_no_text octets invalid =
    sym (ap (λ (b : Bool). if b then switch.asked_by octets else of_switch.Wrong NotUtf8)
    (false_from_ne_true (is_utf8 octets) (λ e. invalid (IsUtf8-from_is_utf8 octets e))))

pub source_text : (octets text : List ℕ) → text ≡ octets → IsUtf8 octets → source.asked_by text ≡ source.asked_in octets
source_text octets text is valid =
    ap source.asked_by is
    ∙ sym (ap (λ (b : Bool). if b then source.asked_by octets else of_source.Wrong NotUtf8) (is_utf8-from_IsUtf8 octets valid))

pub source_no_text : (octets : List ℕ) → (IsUtf8 octets → ⊥) → of_source.Wrong NotUtf8 ≡ source.asked_in octets
source_no_text octets invalid =
    sym (ap (λ (b : Bool). if b then source.asked_by octets else of_source.Wrong NotUtf8)
    (false_from_ne_true (is_utf8 octets) (λ e. invalid (IsUtf8-from_is_utf8 octets e))))

-- more than six words say nothing to a switch
no_word : (d c : Bool) → of_switch.Wrong Words ≡ (if d then of_switch.Wrong Words else if c then of_switch.Wrong Words else of_switch.Wrong Words)
no_word true c = refl
no_word false true = refl
no_word false false = refl

pub switch_many : (words : List (List ℕ)) → 6 < length words → of_switch.Wrong Words ≡ switch.asked_of words
switch_many [] h = absurd (omega (arith, h))
switch_many (a ∷ []) h = absurd (omega (arith, h))
switch_many (a ∷ b ∷ []) h = absurd (omega (arith, h))
switch_many (a ∷ b ∷ c ∷ []) h = absurd (omega (arith, h))
switch_many (a ∷ b ∷ c ∷ d ∷ []) h = absurd (omega (arith, h))
switch_many (a ∷ b ∷ c ∷ d ∷ e ∷ []) h = absurd (omega (arith, h))
switch_many (a ∷ b ∷ c ∷ d ∷ e ∷ f ∷ []) h = absurd (omega (arith, h))
switch_many (a ∷ b ∷ c ∷ d ∷ e ∷ f ∷ g ∷ more) h = no_word (bytes_eq b (codes "data")) (bytes_eq b (codes "capacity"))

-- and more than two say nothing to a source
pub source_many : (words : List (List ℕ)) → 2 < length words → of_source.Wrong Words ≡ source.asked_of words
source_many [] h = absurd (omega (arith, h))
source_many (a ∷ []) h = absurd (omega (arith, h))
source_many (a ∷ b ∷ []) h = absurd (omega (arith, h))
source_many (a ∷ b ∷ c ∷ more) h = refl
