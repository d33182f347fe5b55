-- What escaping does to texts, piece by piece.
use Rattle.std.proofs.Common.{◌≡◌, true, ap, sym, ◌∙◌, ℕ, suc, ◌++◌, List, [], ◌∷◌, refl, arith, append_assoc}
use Rattle.abt_draw.specs.Escapes.{is_special, entity, escape, escaped, IsPlain}

pub escaped-append : (a b : List ℕ) → escaped (a ++ b) ≡ escaped a ++ escaped b
escaped-append [] b = refl
escaped-append (c ∷ cs) b = ap (λ rest. escape c ++ rest) (escaped-append cs b) ∙ sym (append_assoc (escape c) (escaped cs) (escaped b))

plain-more : (c : ℕ) (cs : List ℕ) → IsPlain (c ∷ cs) → IsPlain cs
plain-more c cs plain = λ i l. plain (suc i) (omega arith)

-- a text without special octets stands as it is
pub escaped-plain : (a : List ℕ) → IsPlain a → escaped a ≡ a
escaped-plain [] plain = refl
escaped-plain (c ∷ cs) plain = rw (plain 0 (omega arith), escaped-plain cs (plain-more c cs plain)) refl

-- a text that is cut at a special octet
pub escaped-cut : (before : List ℕ) (octet : ℕ) (behind : List ℕ) → IsPlain before → is_special octet ≡ true
    → escaped (before ++ (octet ∷ behind)) ≡ before ++ (entity octet ++ escaped behind)
escaped-cut before octet behind plain is = rw (escaped-append before (octet ∷ behind), escaped-plain before plain, is) refl

-- what was before such an octet, and what stands for it, are behind the text so far
pub escaped-more : (out before entity behind rest all new : List ℕ) → new ≡ (out ++ before) ++ entity → rest ≡ before ++ (entity ++ behind)
    → out ++ rest ≡ all → new ++ behind ≡ all
escaped-more out before entity behind rest all new made cut all_is =
    rw (made, append_assoc (out ++ before) entity behind, append_assoc out before (entity ++ behind), ← cut) all_is
