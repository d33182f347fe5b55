-- Blocks that are those of a new store.
use Rattle.std.proofs.Common.{◌≡◌, ⊎_elim, ℕ, List, [], ◌∷◌, Ok, sym, ◌∙◌, ap, subst, refl, arith}
use Rattle.std.proofs.lemmas.Bool.{cases_eq}
use Rattle.abt_keep.specs.Record.{KeptRecord}
use Rattle.abt_disk.specs.Disk.{Blocks}
use Rattle.abt_disk.specs.declared.log.DiskCall.{DiskCall}
use Rattle.abt_disk.specs.declared.log.DiskCall.TheVariants.{Sync, Write}
use Rattle.abt_disk.specs.Calls.{blocks_of, MayLeave}
use Rattle.abt_disk.specs.Slots.{slot_of, stored_in}
use Rattle.abt_disk.specs.Stores.{IsWhole}
use Rattle.abt_disk.proofs.Crash.{slot_same, slot_range, stored_by}

pub laid_out : (header choice first second : List ℕ) (kept : KeptRecord) → stored_in (blocks_of (header ∷ choice ∷ first ∷ second ∷ [])) ≡ Ok kept
    → (c : Blocks) → c 0 ≡ header → c 1 ≡ choice → c 2 ≡ first → c 3 ≡ second → stored_in c ≡ Ok kept
laid_out header choice first second kept stored c is_header is_choice is_first is_second =
    let blocks = blocks_of (header ∷ choice ∷ first ∷ second ∷ []) in
    let slot : slot_of c ≡ slot_of blocks = slot_same c blocks is_choice in
    let range = slot_range blocks in
    stored_by c blocks is_header
    (ap c slot ∙ ⊎_elim
    (λ (e : slot_of blocks ≡ 2). ap c e ∙ is_first ∙ sym (ap blocks e))
    (λ differs. let e : slot_of blocks ≡ 3 = omega (arith, range.0, range.1, differs) in ap c e ∙ is_second ∙ sym (ap blocks e))
    (cases_eq (slot_of blocks) 2))
    ∙ stored

-- A file to which these blocks were written, and which was then synced, is a store of the record.
pub whole_after : (header choice first second : List ℕ) (kept : KeptRecord) → stored_in (blocks_of (header ∷ choice ∷ first ∷ second ∷ [])) ≡ Ok kept
    → (calls : List DiskCall) → calls ≡ Sync ∷ Write 3 second ∷ Write 2 first ∷ Write 1 choice ∷ Write 0 header ∷ [] → IsWhole calls kept
whole_after header choice first second kept stored calls is before c left =
    let all : MayLeave before (Sync ∷ Write 3 second ∷ Write 2 first ∷ Write 1 choice ∷ Write 0 header ∷ []) c = subst (λ (l : List DiskCall). MayLeave before l c) is left in
    laid_out header choice first second kept stored c (all 0 refl) (all 1 refl) (all 2 refl) (all 3 refl)
