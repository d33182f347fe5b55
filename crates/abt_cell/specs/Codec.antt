-- The result of reading, and the written cell, as functions: texts are computed from them. `read_rm` and `write_rm`
-- ensure that they are the reading and the writing of `Reading`.
use Rattle.std.specs.Prelude.{◌≡◌, ℕ, ◌<◌, ◌≤◌, ◌+◌, ◌*◌, ◌^◌, nat_lt, Result, Ok, Err, List, [], ◌∷◌, ◌++◌, replicate, if◌then◌else◌, ◌==◌}
use Rattle.std.specs.Int.{w16, w32, to_be_bytes}
use Rattle.abt_rate.specs.Code.{code_of}
use Rattle.abt_rate.specs.Rate.{units_of, IsCanonical}
use Rattle.abt_cell.specs.Division.{remainder_of}
use Rattle.abt_cell.specs.Layout.{pti_of, payload_of, flag, ask_code, floor_code, seq_of, rm_type, protocol_of, abt_protocol, direction_bit, congestion_bit, maintenance_bit, acknowledgement_bit, rigid_bit, filler_octet}
use Rattle.abt_cell.specs.Message.{Terms}
use Rattle.abt_cell.specs.Reading.{content_of}
use Rattle.abt_cell.specs.declared.message.Rm.{Rm}
use Rattle.abt_cell.specs.declared.message.Rm.TheVariants.{Request, Answer}
use Rattle.abt_cell.specs.declared.fault.RmFault.{RmFault}
use Rattle.abt_cell.specs.declared.fault.RmFault.TheVariants.{NotRm, Crc, Protocol, Maintenance, Elastic, Direction, SeqZero, RateOrder}

-- The fields are looked at in the order of the faults.
unfoldable pub read_of : List ℕ → Result Rm RmFault
read_of cell =
    if pti_of cell == rm_type then (
    if remainder_of (payload_of cell) == 0 then (
    if protocol_of cell == abt_protocol then (
    if flag cell maintenance_bit == 0 then (
    if flag cell rigid_bit == 1 then (
    if flag cell direction_bit == flag cell acknowledgement_bit then (
    if seq_of cell == 0 then Err SeqZero else (
    if nat_lt (units_of (ask_code cell)) (units_of (floor_code cell)) then Err RateOrder else
    Ok (content_of cell)
    )) else Err Direction) else Err Elastic) else Err Maintenance) else Err Protocol) else Err Crc) else Err NotRm

-- the request that is made or answered
abbrev pub request_of : Rm → Terms
request_of (Request terms) = terms
request_of (Answer reply) = reply.terms

-- the flags as they are written
abbrev pub flags_of : Rm → ℕ
flags_of (Request terms) = 2 ^ rigid_bit
flags_of (Answer reply) =
    2 ^ direction_bit + 2 ^ acknowledgement_bit + 2 ^ rigid_bit + (if reply.granted then 0 else 2 ^ congestion_bit)

-- the octets of a cell with these fields, and the others as they are written
abbrev pub octets_with : (header flags ask floor seq check : ℕ) → List ℕ
octets_with header flags ask floor seq check =
    to_be_bytes w32 header ++ (abt_protocol ∷ flags ∷ []) ++ to_be_bytes w16 ask ++ to_be_bytes w16 floor ++ replicate 6 0
    ++ to_be_bytes w32 seq ++ replicate 30 filler_octet ++ to_be_bytes w16 check

-- the header of an RM cell
abbrev pub header_for : Terms → ℕ
header_for terms = terms.vc.vpi * 2 ^ 20 + terms.vc.vci * 2 ^ 4 + rm_type * 2

-- the cell with a check that may be any
abbrev pub draft_of : Rm → ℕ → List ℕ
draft_of rm check =
    let terms = request_of rm in
    octets_with (header_for terms) (flags_of rm) (code_of terms.ask) (code_of terms.floor) terms.seq check

unfoldable pub written_of : Rm → List ℕ
written_of rm = draft_of rm (remainder_of (payload_of (draft_of rm 0)))

-- A rate has one canonical code, the one that is computed.
pub record HasCode (units : ℕ) : Type 0 where
  pub canonical : IsCanonical (code_of units)
  pub units_are : units_of (code_of units) ≡ units
  pub only : (code : ℕ) → IsCanonical code → units_of code ≡ units → code ≡ code_of units

-- What holds of every request and every answer that there is, and makes it fit a cell.
pub record IsSayable (rm : Rm) : Type 0 where
  pub vpi : (request_of rm).vc.vpi < 2 ^ 12
  pub vci : (request_of rm).vc.vci < 2 ^ 16
  pub seq_positive : 0 < (request_of rm).seq
  pub seq_fits : (request_of rm).seq < 2 ^ 32
  pub order : (request_of rm).floor ≤ (request_of rm).ask
  pub ask : HasCode (request_of rm).ask
  pub floor : HasCode (request_of rm).floor
