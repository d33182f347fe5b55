-- Where the fields of a cell lie, and what some of them are (docs/FORMATS.md, "The RM cell"). A cell is its 52 octets: the header's
-- 1 to 4, and the payload's 6 to 53. Places count from 0: octet n of the header is at n - 1, octet n of the payload at n - 2,
-- and bit n of an octet, 8 to 1, at n - 1.
use Rattle.std.specs.Prelude.{◌≡◌, ℕ, ◌+◌, ◌*◌, ◌/◌, ◌%◌, ◌^◌, ◌<◌, List, length, slice_index, slice_range, drop, ◌==◌}
use Rattle.std.specs.Int.{bit_at}
use Rattle.abt_rate.specs.Rate.{units_of}
use Rattle.abt_cell.specs.Channel.{Channel}
use Rattle.abt_cell.specs.Message.{Terms, Reply}

-- the octets of a cell: 52 numbers of eight bits
pub record IsCell (cell : List ℕ) : Type 0 where
  pub long : length cell ≡ 52
  pub octets : (place : ℕ) → slice_index cell place < 2 ^ 8

-- two octets from a place on, the first the higher
abbrev pub word_at : List ℕ → ℕ → ℕ
word_at cell place = slice_index cell place * 2 ^ 8 + slice_index cell (place + 1)

-- four octets from a place on, the first the highest
abbrev pub long_at : List ℕ → ℕ → ℕ
long_at cell place = word_at cell place * 2 ^ 16 + word_at cell (place + 2)

-- ---- the header: VPI (12 bits), VCI (16), PTI (3), CLP (1)

abbrev pub header_of : List ℕ → ℕ
header_of cell = long_at cell 0

abbrev pub channel_of : List ℕ → Channel
channel_of cell = record { vpi = header_of cell / 2 ^ 20; vci = header_of cell / 2 ^ 4 % 2 ^ 16 }

abbrev pub pti_of : List ℕ → ℕ
pti_of cell = header_of cell / 2 % 2 ^ 3

abbrev pub clp_of : List ℕ → ℕ
clp_of cell = header_of cell % 2

-- the payload type of an RM cell of a virtual channel, binary 110 (I.361)
abbrev pub rm_type : ℕ
rm_type = 6

-- ---- the payload, octets 6 to 53

abbrev pub payload_of : List ℕ → List ℕ
payload_of cell = drop 4 cell

-- octet 6
abbrev pub protocol_of : List ℕ → ℕ
protocol_of cell = slice_index cell 4

-- the protocol identifier of ABT
abbrev pub abt_protocol : ℕ
abt_protocol = 2

-- octet 7
abbrev pub flag : List ℕ → ℕ → ℕ
flag cell place = bit_at (slice_index cell 5) place

-- its bits 8 to 3
abbrev pub direction_bit : ℕ
direction_bit = 7

abbrev pub traffic_bit : ℕ
traffic_bit = 6

abbrev pub congestion_bit : ℕ
congestion_bit = 5

abbrev pub maintenance_bit : ℕ
maintenance_bit = 4

abbrev pub acknowledgement_bit : ℕ
acknowledgement_bit = 3

abbrev pub rigid_bit : ℕ
rigid_bit = 2

-- octets 8 and 9
abbrev pub ask_code : List ℕ → ℕ
ask_code cell = word_at cell 6

-- octets 10 and 11
abbrev pub floor_code : List ℕ → ℕ
floor_code cell = word_at cell 8

-- octets 12 to 17, which carry nothing
abbrev pub unused_of : List ℕ → List ℕ
unused_of cell = slice_range cell 10 16

-- octets 18 to 21
abbrev pub seq_of : List ℕ → ℕ
seq_of cell = long_at cell 16

-- octets 22 to 51, which carry nothing
abbrev pub filler_of : List ℕ → List ℕ
filler_of cell = slice_range cell 20 50

-- what each of these is written as
abbrev pub filler_octet : ℕ
filler_octet = 0x6a

-- octets 52 and 53: six bits that carry nothing, and the check
abbrev pub check_of : List ℕ → ℕ
check_of cell = word_at cell 50

-- ---- what the fields say

abbrev pub terms_of : List ℕ → Terms
terms_of cell = record { vc = channel_of cell; seq = seq_of cell; floor = units_of (floor_code cell); ask = units_of (ask_code cell) }

abbrev pub reply_of : List ℕ → Reply
reply_of cell = record { terms = terms_of cell; granted = flag cell congestion_bit == 0 }
