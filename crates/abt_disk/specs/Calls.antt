-- A disk by the calls of a file, the newest first, and by the octets that its blocks had before the first of them.
use Rattle.std.specs.Prelude.{◌≡◌, ◌⊎◌, ◌≤◌, ℕ, ◌==◌, Bool, true, false, not, ◌||◌, bytes_eq, if◌then◌else◌, List, [], ◌∷◌, length, get_or, suc}
use Rattle.std.proofs.Common.{inl, inr, arith}
use Rattle.abt_disk.specs.Disk.{Blocks}
use Rattle.abt_disk.specs.declared.log.DiskCall.{DiskCall}
use Rattle.abt_disk.specs.declared.log.DiskCall.TheVariants.{Read, Write, WriteFailed, Sync, Failed}

-- the blocks of a list of octets
abbrev pub blocks_of : List (List ℕ) → Blocks
blocks_of octets block = get_or octets block []

-- what the blocks hold after these calls: what was last written to each
abbrev pub held_after : (first : List (List ℕ)) → List DiskCall → Blocks
held_after first [] = blocks_of first
held_after first (Read at octets ∷ earlier) = held_after first earlier
held_after first (Write at octets ∷ earlier) = λ block. if block == at then octets else held_after first earlier block
held_after first (WriteFailed at ∷ earlier) = held_after first earlier
held_after first (Sync ∷ earlier) = held_after first earlier
held_after first (Failed ∷ earlier) = held_after first earlier

-- whether a block was synced since it was last written
abbrev pub is_synced : List DiskCall → ℕ → Bool
is_synced [] block = true
is_synced (Read at octets ∷ earlier) block = is_synced earlier block
is_synced (Write at octets ∷ earlier) block = if block == at then false else is_synced earlier block
is_synced (WriteFailed at ∷ earlier) block = if block == at then false else is_synced earlier block
is_synced (Sync ∷ earlier) block = true
is_synced (Failed ∷ earlier) block = is_synced earlier block

-- A crash after these calls leaves the blocks that were synced since they were written, and anything in the others.
abbrev pub MayLeave : (first : List (List ℕ)) → List DiskCall → Blocks → Type 0
MayLeave first calls c = (block : ℕ) → is_synced calls block ≡ true → c block ≡ held_after first calls block

-- What a crash might have left after one of these calls, from that of a number on.
abbrev pub LeftSince : (first : List (List ℕ)) → List DiskCall → ℕ → Blocks → Type 0
LeftSince first [] t c = MayLeave first [] c
LeftSince first (call ∷ earlier) t c = MayLeave first (call ∷ earlier) c ⊎ ((t ≤ length earlier) × LeftSince first earlier t c)

-- whether a call failed, or gave other octets than the block holds
abbrev pub fails : Blocks → DiskCall → Bool
fails held (Read at octets) = not (bytes_eq octets (held at))
fails held (Write at octets) = false
fails held (WriteFailed at) = true
fails held Sync = false
fails held Failed = true

-- whether one of these calls failed
abbrev pub has_failed : (first : List (List ℕ)) → List DiskCall → Bool
has_failed first [] = false
has_failed first (call ∷ earlier) = has_failed first earlier || fails (held_after first earlier) call

-- a disk: its file, and the octets of the blocks before the first call
pub record FileView (F : Type 0) : Type 0 where
  pub file : F
  pub first : List (List ℕ)

-- the laws of a disk: what a crash may leave now is left since any earlier moment, and since now nothing else is
pub counts_now : (first : List (List ℕ)) (calls : List DiskCall) (t : ℕ) (c : Blocks) → t ≤ length calls → MayLeave first calls c → LeftSince first calls t c
counts_now first [] t c le now = now
counts_now first (call ∷ earlier) t c le now = inl now

none_later : (n : ℕ) → suc n ≤ n → ⊥
none_later n le = absurd (omega (arith, le))

pub only_now : (first : List (List ℕ)) (calls : List DiskCall) (c : Blocks) → LeftSince first calls (length calls) c → MayLeave first calls c
only_now first [] c now = now
only_now first (call ∷ earlier) c (inl now) = now
only_now first (call ∷ earlier) c (inr had) = absurd (none_later (length earlier) had.0)
