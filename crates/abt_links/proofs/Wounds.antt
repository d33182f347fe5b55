-- Wounds that are handed on.
use Rattle.std.proofs.Common.{◌≡◌, ℕ, ◌<◌, Result, Ok, Err, IfOk, IsErrOf, IsErrAnd, sym, ap, ◌∙◌}
use Rattle.abt_journal.specs.declared.fault.ServeFault.{ServeFault}
use Rattle.abt_journal.specs.declared.fault.ServeFault.TheVariants.{Wound}

-- what is handed on as a fault is that fault
pub handed_on : {A : Type 0} (r : Result A ServeFault) (fault : ServeFault) (seen found : ℕ) → IsErrAnd r (λ told. told ≡ fault) → IsErrOf r (Wound seen found) → fault ≡ Wound seen found
handed_on {A} (Ok x) fault seen found same is = absurd same
handed_on {A} (Err told) fault seen found same is = (let e : Err told ≡ Err (Wound seen found) = is in let h : told ≡ Wound seen found = cc in sym same ∙ h)

pub keeps_err : {A B : Type 0} (P : A → Type 0) (r : Result A ServeFault) (s : Result B ServeFault) (fault : ServeFault) → s ≡ Err fault → IsErrAnd r (λ told. told ≡ fault)
    → ((seen found : ℕ) → IsErrOf s (Wound seen found) → found < seen) → IfOk r P × ((seen found : ℕ) → IsErrOf r (Wound seen found) → found < seen)
keeps_err {A} {B} P (Ok x) s fault is same right = absurd same
keeps_err {A} {B} P (Err told) s fault is same right = (tt, λ seen found of. right seen found (is ∙ ap Err (handed_on (Err told) fault seen found same of)))
