-- The record that a store keeps of a source, and its octets (docs/RULES.md, "Kept records"; docs/FORMATS.md, "Kept records").
use Rattle.std.specs.Prelude.{ℕ, ◌==◌, ◌≤◌, ◌&&◌, ◌++◌, nat_le, Bool, List, length, take, drop, Result, Ok, Err, if◌then◌else◌, refl}
use Rattle.std.specs.Coded.{Coded, code_by, coded×, coded_ℕ}
use Rattle.std.specs.Int.{w32, w64, to_be_bytes, from_be_bytes}
use Rattle.abt_rate.specs.Limits.{spacing_min, spacing_max}
use Rattle.abt_keep.specs.declared.fault.RecordFault.{RecordFault}
use Rattle.abt_keep.specs.declared.fault.RecordFault.TheVariants.{Length, Spacing}

-- a number, at least the last one that was used, and a spacing, at least each gap that may be running
pub record KeptRecord : Type 0 where
  pub number : ℕ
  pub spacing : ℕ

-- it is stored as its two numbers
abbrev pub record_code : Coded KeptRecord
record_code =
    code_by (ℕ × ℕ) (coded× coded_ℕ coded_ℕ) (λ r. (r.number, r.spacing)) (λ p. record { number = p.0; spacing = p.1 }) (λ _. refl)

-- a spacing that some rate may have
abbrev pub IsSpacing : ℕ → Type 0
IsSpacing spacing = (spacing_min ≤ spacing) × (spacing ≤ spacing_max)

abbrev pub is_spacing : ℕ → Bool
is_spacing spacing = nat_le spacing_min spacing && nat_le spacing spacing_max

-- A record from before spacings were kept has the greatest, which covers every gap.
abbrev pub old_record : ℕ → KeptRecord
old_record number = record { number = number; spacing = spacing_max }

-- the octets of a record: four of the number, and then eight of the spacing, the highest octet first
abbrev pub octets_of : KeptRecord → List ℕ
octets_of kept = to_be_bytes w32 kept.number ++ to_be_bytes w64 kept.spacing

abbrev pub record_with : (number spacing : ℕ) → Result KeptRecord RecordFault
record_with number spacing = if is_spacing spacing then Ok (record { number = number; spacing = spacing }) else Err Spacing

-- The record that octets say: four are an old record.
abbrev pub record_in : List ℕ → Result KeptRecord RecordFault
record_in octets =
    if length octets == 4 then Ok (old_record (from_be_bytes w32 octets))
    else (if length octets == 12 then record_with (from_be_bytes w32 (take 4 octets)) (from_be_bytes w64 (drop 4 octets))
    else Err Length)
