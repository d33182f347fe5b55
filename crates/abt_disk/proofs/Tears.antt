-- A write leaves a crash anything in its block, and the other blocks as they were.
use Rattle.std.proofs.Common.{◌≡◌, ◌≢◌, ℕ, List, ◌∷◌, false, refl, sym, ◌∙◌}
use mathlib.Core.Bool.{cond}
use lib.Dec.{eqb}
use Rattle.std.proofs.lemmas.Bool.{cond_both, cond-false, eqb-false, ne_eqb}
use Rattle.abt_disk.specs.declared.log.DiskCall.{DiskCall}
use Rattle.abt_disk.specs.declared.log.DiskCall.TheVariants.{Write, WriteFailed}
use Rattle.abt_disk.specs.Disk.{Torn, Follows}
use Rattle.abt_disk.specs.Calls.{MayLeave, held_after, is_synced}

-- After a call that touches one block, the others are held and synced as before.
tears : (first : List (List ℕ)) (calls : List DiskCall) (call : DiskCall) (at : ℕ)
    → ((other : ℕ) → other ≢ at → is_synced (call ∷ calls) other ≡ is_synced calls other)
    → ((other : ℕ) → other ≢ at → held_after first (call ∷ calls) other ≡ held_after first calls other)
    → Follows (Torn at) (MayLeave first calls) (MayLeave first (call ∷ calls))
tears first calls call at synced held c left = (
  λ b. cond (eqb b at) (held_after first calls b) (c b),
  λ b is. cond_both (eqb b at) (held_after first calls b) (c b) (λ x. x ≡ held_after first calls b) (λ e. refl)
      (λ e. left b (synced b (eqb-false b at e) ∙ is) ∙ held b (eqb-false b at e)),
  λ other differs. sym (cond-false (eqb other at) (held_after first calls other) (c other) (ne_eqb other at differs)),
)

pub tears_written : (first : List (List ℕ)) (calls : List DiskCall) (at : ℕ) (octets : List ℕ)
    → Follows (Torn at) (MayLeave first calls) (MayLeave first (Write at octets ∷ calls))
tears_written first calls at octets =
    tears first calls (Write at octets) at
    (λ other differs. cond-false (eqb other at) false (is_synced calls other) (ne_eqb other at differs))
    (λ other differs. cond-false (eqb other at) octets (held_after first calls other) (ne_eqb other at differs))

pub tears_failed : (first : List (List ℕ)) (calls : List DiskCall) (at : ℕ)
    → Follows (Torn at) (MayLeave first calls) (MayLeave first (WriteFailed at ∷ calls))
tears_failed first calls at =
    tears first calls (WriteFailed at) at
    (λ other differs. cond-false (eqb other at) false (is_synced calls other) (ne_eqb other at differs))
    (λ other differs. refl)
