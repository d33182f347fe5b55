-- Which cells are RM cells, what they say, which fault the others have, and which one cell is written (docs/FORMATS.md, "The
-- RM cell").
use Rattle.std.specs.Prelude.{◌≡◌, ◌≢◌, ℕ, ◌<◌, ◌≤◌, ◌^◌, List, replicate, if◌then◌else◌, ◌==◌}
use Rattle.abt_rate.specs.Rate.{units_of, IsCanonical}
use Rattle.abt_cell.specs.Polynomial.{polynomial_of, IsMultiple}
use Rattle.abt_cell.specs.Layout.{IsCell, pti_of, clp_of, payload_of, flag, ask_code, floor_code, seq_of, check_of, unused_of, filler_of, terms_of, reply_of, rm_type, protocol_of, abt_protocol, direction_bit, traffic_bit, congestion_bit, maintenance_bit, acknowledgement_bit, rigid_bit, filler_octet}
use Rattle.abt_cell.specs.declared.message.Rm.{Rm}
use Rattle.abt_cell.specs.declared.message.Rm.TheVariants.{Request, Answer}
use Rattle.abt_cell.specs.declared.fault.RmFault.{RmFault}
use Rattle.abt_cell.specs.declared.fault.RmFault.TheVariants.{NotRm, Crc, Protocol, Maintenance, Elastic, Direction, SeqZero, RateOrder}

-- a request, or with the acknowledgement flag an answer
abbrev pub content_of : List ℕ → Rm
content_of cell = if flag cell acknowledgement_bit == 0 then Request (terms_of cell) else Answer (reply_of cell)

-- The cell is an RM cell that says rm.
pub record Reads (cell : List ℕ) (rm : Rm) : Type 0 where
  pub pti : pti_of cell ≡ rm_type
  pub check : IsMultiple (polynomial_of (payload_of cell))
  pub protocol : protocol_of cell ≡ abt_protocol
  pub maintenance : flag cell maintenance_bit ≡ 0
  pub rigid : flag cell rigid_bit ≡ 1
  -- A request is forward, an answer backward.
  pub direction : flag cell direction_bit ≡ flag cell acknowledgement_bit
  pub seq : seq_of cell ≢ 0
  pub rates : units_of (floor_code cell) ≤ units_of (ask_code cell)
  pub content : content_of cell ≡ rm

-- what each fault says, of its own field alone
abbrev pub IsWrong : RmFault → List ℕ → Type 0
IsWrong NotRm cell = pti_of cell ≢ rm_type
IsWrong Crc cell = ¬ IsMultiple (polynomial_of (payload_of cell))
IsWrong Protocol cell = protocol_of cell ≢ abt_protocol
IsWrong Maintenance cell = flag cell maintenance_bit ≢ 0
IsWrong Elastic cell = flag cell rigid_bit ≢ 1
IsWrong Direction cell = flag cell direction_bit ≢ flag cell acknowledgement_bit
IsWrong SeqZero cell = seq_of cell ≡ 0
IsWrong RateOrder cell = units_of (ask_code cell) < units_of (floor_code cell)

-- the order in which faults are looked for
abbrev pub number_of : RmFault → ℕ
number_of NotRm = 1
number_of Crc = 2
number_of Protocol = 3
number_of Maintenance = 4
number_of Elastic = 5
number_of Direction = 6
number_of SeqZero = 7
number_of RateOrder = 8

-- A field is wrong, and none before it.
pub record IsFirstFault (cell : List ℕ) (fault : RmFault) : Type 0 where
  pub wrong : IsWrong fault cell
  pub none_before : (earlier : RmFault) → number_of earlier < number_of fault → ¬ IsWrong earlier cell

-- The cell that is written for rm: it reads as rm, and what a reader ignores is as it is to be written.
pub record IsWritten (rm : Rm) (cell : List ℕ) : Type 0 where
  pub reads : Reads cell rm
  pub clp : clp_of cell ≡ 0
  pub traffic_management : flag cell traffic_bit ≡ 0
  pub congestion : flag cell acknowledgement_bit ≡ 0 → flag cell congestion_bit ≡ 0
  -- the two flags below the rigid one
  pub reserved : (flag cell 1 ≡ 0) × (flag cell 0 ≡ 0)
  pub unused : unused_of cell ≡ replicate 6 0
  pub filler : filler_of cell ≡ replicate 30 filler_octet
  -- nothing above the ten bits of the check
  pub above_check : check_of cell < 2 ^ 10
  pub ask : IsCanonical (ask_code cell)
  pub floor : IsCanonical (floor_code cell)

-- The cell is written for rm, no other one is, and it reads as nothing else.
pub record IsOnlyWritten (rm : Rm) (cell : List ℕ) : Type 0 where
  pub written : IsWritten rm cell
  pub only_cell : (other : List ℕ) → IsCell other → IsWritten rm other → other ≡ cell
  pub only_reading : (other : Rm) → Reads cell other → other ≡ rm
