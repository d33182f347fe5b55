-- What the blocks of a store say (docs/FORMATS.md, "Stores"): block 0 names the format, the first octet of block 1 chooses block 2 or 3 by
-- its parity, and the chosen one has the record.
use Rattle.std.specs.Prelude.{◌≡◌, ◌⊎◌, ℕ, ◌+◌, ◌%◌, ◌==◌, bytes_eq, if◌then◌else◌, List, [], ◌∷◌, take, drop, slice_index, Result, Ok, Err}
use Rattle.std.specs.Int.{w64, from_be_bytes}
use Rattle.abt_keep.specs.Record.{KeptRecord, record_in}
use Rattle.abt_keep.specs.declared.fault.RecordFault.{RecordFault}
use Rattle.abt_disk.specs.Disk.{Blocks}
use Rattle.abt_disk.specs.declared.fault.OpenFault.{OpenFault}
use Rattle.abt_disk.specs.declared.fault.OpenFault.TheVariants.{Format, Version, Damaged}

-- the name of the format, `abt source store` in ASCII
abbrev pub format_name : List ℕ
format_name = 97 ∷ 98 ∷ 116 ∷ 32 ∷ 115 ∷ 111 ∷ 117 ∷ 114 ∷ 99 ∷ 101 ∷ 32 ∷ 115 ∷ 116 ∷ 111 ∷ 114 ∷ 101 ∷ []

-- what block 0 says of format and version
abbrev pub version_in : (version : ℕ) → Result (Unit {0}) OpenFault
version_in version = if version == 1 then Ok tt else Err (Version version)

abbrev pub header_in : List ℕ → Result (Unit {0}) OpenFault
header_in octets =
    if bytes_eq (take 16 octets) format_name then version_in (from_be_bytes w64 (drop 16 octets)) else Err Format

-- the chosen slot: any octet chooses one of the two
abbrev pub slot_of : Blocks → ℕ
slot_of blocks = 2 + slice_index (blocks 1) 0 % 2

-- the record of a slot, whose octets stand there twice
abbrev pub or_damaged : Result KeptRecord RecordFault → Result KeptRecord OpenFault
or_damaged (Ok kept) = Ok kept
or_damaged (Err _) = Err Damaged

abbrev pub record_in_slot : List ℕ → Result KeptRecord OpenFault
record_in_slot octets = if bytes_eq (take 12 octets) (drop 12 octets) then or_damaged (record_in (take 12 octets)) else Err Damaged

-- the record that is stored, or why there is none: the first fault
abbrev pub behind : Result (Unit {0}) OpenFault → Result KeptRecord OpenFault → Result KeptRecord OpenFault
behind (Ok _) stored = stored
behind (Err fault) stored = Err fault

abbrev pub stored_in : Blocks → Result KeptRecord OpenFault
stored_in blocks = behind (header_in (blocks 0)) (record_in_slot (blocks (slot_of blocks)))

-- The blocks store one of two records.
abbrev pub StoresOneOf : KeptRecord → KeptRecord → Blocks → Type 0
StoresOneOf old kept blocks = (stored_in blocks ≡ Ok old) ⊎ (stored_in blocks ≡ Ok kept)
