-- Octets that are noted one by one.
use Rattle.std.proofs.Common.{◌≡◌, ◌∙◌, ℕ, List, [], ◌∷◌, ◌++◌, refl, sym}
use Rattle.std.proofs.lemmas.List.{append-nil, append_assoc}
use Rattle.abt_files.specs.Calls.{octets_of, wrote, has_failed, is_made}
use Rattle.abt_files.specs.declared.calls.OutCall.{OutCall}
use Rattle.abt_files.specs.declared.calls.OutCall.TheVariants.{Wrote}

pub wrote_more : (earlier : List OutCall) (octets : List ℕ) (octet : ℕ) → wrote earlier (octets ++ octet ∷ []) ≡ Wrote octet ∷ wrote earlier octets
wrote_more earlier [] octet = refl
wrote_more earlier (next ∷ octets) octet = wrote_more (Wrote next ∷ earlier) octets octet

pub octets_of_wrote : (earlier : List OutCall) (octets : List ℕ) → octets_of (wrote earlier octets) ≡ octets_of earlier ++ octets
octets_of_wrote earlier [] = sym (append-nil (octets_of earlier))
octets_of_wrote earlier (next ∷ octets) = octets_of_wrote (Wrote next ∷ earlier) octets ∙ append_assoc (octets_of earlier) (next ∷ []) octets

pub has_failed_wrote : (earlier : List OutCall) (octets : List ℕ) → has_failed (wrote earlier octets) ≡ has_failed earlier
has_failed_wrote earlier [] = refl
has_failed_wrote earlier (next ∷ octets) = has_failed_wrote (Wrote next ∷ earlier) octets

pub is_made_wrote : (earlier : List OutCall) (octets : List ℕ) → is_made (wrote earlier octets) ≡ is_made earlier
is_made_wrote earlier [] = refl
is_made_wrote earlier (next ∷ octets) = is_made_wrote (Wrote next ∷ earlier) octets
