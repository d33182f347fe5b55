-- What a crash leaves in each of the two steps of a write.
use Rattle.std.proofs.Common.{◌≡◌, ◌≢◌, inl, inr, ⊎_elim, ℕ, ◌+◌, ◌-◌, ◌≤◌, ◌%◌, List, slice_index, Result, Ok, Err, refl, ◌∙◌, ap, arith}
use Rattle.std.specs.Prelude.{OnOk}
use Rattle.std.proofs.lemmas.Bool.{cases_eq}
use Rattle.abt_keep.specs.Record.{KeptRecord}
use Rattle.abt_disk.specs.declared.fault.OpenFault.{OpenFault}
use Rattle.abt_disk.specs.Disk.{Blocks, AreSame, Torn}
use Rattle.abt_disk.specs.Slots.{slot_of, stored_in, behind, header_in, record_in_slot, StoresOneOf}

-- the slot is that of a disk whose choice is the same
pub slot_same : (a b : Blocks) → a 1 ≡ b 1 → slot_of a ≡ slot_of b
slot_same a b same = ap (λ (octets : List ℕ). 2 + slice_index octets 0 % 2) same

pub slot_range : (blocks : Blocks) → (2 ≤ slot_of blocks) × (slot_of blocks ≤ 3)
slot_range blocks = (omega arith, omega arith)

-- what is stored, by the header and the chosen slot
pub stored_by : (a b : Blocks) → a 0 ≡ b 0 → a (slot_of a) ≡ b (slot_of b) → stored_in a ≡ stored_in b
stored_by a b header slot =
    ap (λ (octets : List ℕ). behind (header_in octets) (record_in_slot (a (slot_of a)))) header
    ∙ ap (λ (octets : List ℕ). behind (header_in (b 0)) (record_in_slot octets)) slot

-- The same blocks store the same.
pub same_stored : (a b : Blocks) → AreSame a b → stored_in a ≡ stored_in b
same_stored a b same = stored_by a b (same 0) (same (slot_of a) ∙ ap b (slot_same a b (same 1)))

-- of two slots, the one that isn't this one
the_other : (slot now other : ℕ) → other ≡ 5 - slot → (2 ≤ slot) × (slot ≤ 3) → (2 ≤ now) × (now ≤ 3) → now ≢ slot → now ≡ other
the_other slot now other is_other range range_now differs = omega (arith, is_other, range.0, range.1, range_now.0, range_now.1, differs)

-- The slot that isn't chosen may have anything.
pub torn_other : (old : Blocks) (other : ℕ) → other ≡ 5 - slot_of old → (c : Blocks) → Torn other old c → stored_in c ≡ stored_in old
torn_other old other is_other c torn =
    let range = slot_range old in
    let choice : c 1 ≡ old 1 = torn 1 (λ e. absurd (omega (arith, e, is_other, range.1))) in
    let slot : slot_of c ≡ slot_of old = slot_same c old choice in
    stored_by c old (torn 0 (λ e. absurd (omega (arith, e, is_other, range.1))))
    (ap c slot ∙ torn (slot_of old) (λ e. absurd (omega (arith, e, is_other, range.0, range.1))))

-- behind a header that is right, what is stored is what the slot has
header_right : (header : Result (Unit {0}) OpenFault) (slot : Result KeptRecord OpenFault) (before : KeptRecord) → behind header slot ≡ Ok before
    → (other : Result KeptRecord OpenFault) → behind header other ≡ other
header_right (Ok x) slot before is other = refl
header_right (Err fault) slot before is other = absurd (cc is)

pub new_record : (old : Blocks) (before kept : KeptRecord) → stored_in old ≡ Ok before
    → (c : Blocks) → c 0 ≡ old 0 → record_in_slot (c (slot_of c)) ≡ Ok kept → stored_in c ≡ Ok kept
new_record old before kept stored c header says =
    ap (λ (octets : List ℕ). behind (header_in octets) (record_in_slot (c (slot_of c)))) header
    ∙ header_right (header_in (old 0)) (record_in_slot (old (slot_of old))) before stored (record_in_slot (c (slot_of c))) ∙ says

-- A disk whose slot that isn't chosen has a record, with whatever octet in the block of choice: it stores the old record or that one.
pub torn_choice : (old : Blocks) (before kept : KeptRecord) (other : ℕ) → other ≡ 5 - slot_of old → stored_in old ≡ Ok before
    → (mid : Blocks) → Torn other old mid → record_in_slot (mid other) ≡ Ok kept → (c : Blocks) → Torn 1 mid c → StoresOneOf before kept c
torn_choice old before kept other is_other stored mid first says c torn =
    let range = slot_range old in let range_c = slot_range c in
    let header : c 0 ≡ old 0 = torn 0 (λ e. absurd (omega (arith, e))) ∙ first 0 (λ e. absurd (omega (arith, e, is_other, range.1))) in
    let at_slot : c (slot_of c) ≡ mid (slot_of c) = torn (slot_of c) (λ e. absurd (omega (arith, e, range_c.0))) in
    ⊎_elim
    (λ e. inl (stored_by c old header (at_slot ∙ ap mid e ∙ first (slot_of old) (λ e2. absurd (omega (arith, e2, is_other, range.0, range.1)))) ∙ stored))
    (λ differs. inr (new_record old before kept stored c header
    (ap record_in_slot (at_slot ∙ ap mid (the_other (slot_of old) (slot_of c) other is_other range range_c differs)) ∙ says)))
    (cases_eq (slot_of c) (slot_of old))

-- Once the choice is written, it is the new record.
pub chosen_new : (old : Blocks) (before kept : KeptRecord) (other : ℕ) → other ≡ 5 - slot_of old → stored_in old ≡ Ok before
    → (mid new : Blocks) → Torn other old mid → record_in_slot (mid other) ≡ Ok kept → Torn 1 mid new → slot_of new ≡ other → stored_in new ≡ Ok kept
chosen_new old before kept other is_other stored mid new first says torn slot =
    let range = slot_range old in
    new_record old before kept stored new
    (torn 0 (λ e. absurd (omega (arith, e))) ∙ first 0 (λ e. absurd (omega (arith, e, is_other, range.1))))
    (ap record_in_slot (ap new slot ∙ torn other (λ e. absurd (omega (arith, e, is_other, range.0, range.1)))) ∙ says)

-- of a call that worked, from two facts a third
pub on_both : {T E : Type 0} (result : Result T E) (A B C : Type 0) → OnOk result A → OnOk result B → (A → B → C) → OnOk result C
on_both (Ok x) A B C a b from = from a b
on_both (Err x) A B C a b from = tt
