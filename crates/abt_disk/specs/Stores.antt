-- A store of one record on a disk, as contracts see it, and what its calls do over every crash.
use Rattle.std.specs.Prelude.{◌≡◌, ℕ, List, Bool, true, false, is_err, if◌then◌else◌, Result, Ok, Err, OnOk, OnErr}
use Rattle.abt_keep.specs.Record.{KeptRecord}
use Rattle.abt_keep.specs.MemoryStore.{one_more}
use Rattle.abt_keep.specs.declared.fault.StoreFault.{StoreFault}
use Rattle.abt_keep.specs.declared.fault.StoreFault.TheVariants.{Device}
use Rattle.abt_disk.specs.Calls.{MayLeave}
use Rattle.abt_disk.specs.declared.log.DiskCall.{DiskCall}
use Rattle.abt_disk.specs.Disk.{Blocks, AreSame, NoMore, Only, LeavesOnly}
use Rattle.abt_disk.specs.Slots.{slot_of, stored_in, StoresOneOf}

-- a store: its disk, the record that it holds, and how many calls failed
pub record StoreView (D : Type 0) : Type 0 where
  pub disk : D
  pub kept : KeptRecord
  pub failures : ℕ

-- All of the disk is synced, this slot is chosen, and it has this record.
pub record IsSettled {D : Type 0} (seen : D → Blocks) (may_leave : D → Blocks → Type 0) (disk : D) (slot : ℕ)
    (kept : KeptRecord) : Type 0 where
  pub chosen : slot ≡ slot_of (seen disk)
  pub durable : Only (seen disk) (may_leave disk)
  pub stored : stored_in (seen disk) ≡ Ok kept

-- Only reads were made: at any moment a crash leaves what the disk held.
pub record ReadsOnly {D : Type 0} (seen : D → Blocks) (may_leave : D → Blocks → Type 0) (moment : D → ℕ)
    (left_since : D → ℕ → Blocks → Type 0) (old new : D) : Type 0 where
  pub seen_same : AreSame (seen new) (seen old)
  pub no_more : NoMore (may_leave old) (may_leave new)
  pub any_moment : LeavesOnly moment left_since old new (λ c. AreSame c (seen old))

-- A read gives the record and asks nothing of the disk, unless that has failed.
abbrev pub read_of : {D : Type 0} → (has_failed : D → Bool) → StoreView D → Result KeptRecord StoreFault × StoreView D
read_of has_failed store =
    if has_failed store.disk then (Err Device, record store { failures = one_more store.failures }) else (Ok store.kept, store)

-- A write, over every crash. At any moment of the call one leaves the record from before it or the new one; at Ok each crash from then on
-- leaves the new one. It fails exactly if the disk has failed, and a disk that had failed before is asked nothing more.
pub record Keeps {D : Type 0} (seen : D → Blocks) (may_leave : D → Blocks → Type 0) (moment : D → ℕ)
    (left_since : D → ℕ → Blocks → Type 0) (has_failed : D → Bool)
    (store : StoreView D) (kept : KeptRecord) (answer : Result (Unit {0}) StoreFault) (after : StoreView D) : Type 0 where
  pub any_moment : has_failed store.disk ≡ false →
      LeavesOnly moment left_since store.disk after.disk (StoresOneOf store.kept kept)
  pub acknowledged : OnOk answer ((stored_in (seen after.disk) ≡ Ok kept) × Only (seen after.disk) (may_leave after.disk))
  pub fails : has_failed after.disk ≡ is_err answer
  pub stays : has_failed store.disk ≡ true → after.disk ≡ store.disk
  pub same : OnErr answer (after.kept ≡ store.kept)
  pub failures : after.failures ≡ (if is_err answer then one_more store.failures else store.failures)

-- A file is a store of this record after these calls, whatever it had before them and whatever a crash does.
abbrev pub IsWhole : List DiskCall → KeptRecord → Type 0
IsWhole calls kept = (first : List (List ℕ)) (c : Blocks) → MayLeave first calls c → stored_in c ≡ Ok kept
