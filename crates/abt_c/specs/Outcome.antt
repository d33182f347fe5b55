-- The numbers that C gets for the results of calls (docs/C.md, "Outcomes"). Below 32 a call was carried out, from 32
-- on it was refused.
use Rattle.std.specs.Prelude.{ℕ}
use Rattle.abt_cell.specs.declared.fault.RmFault.{RmFault}
use Rattle.abt_cell.specs.declared.fault.RmFault.TheVariants.{NotRm, Crc, Protocol, Maintenance, Elastic, Direction, SeqZero, RateOrder}
use Rattle.abt_gcra.specs.declared.verdict.Verdict.{Verdict}
use Rattle.abt_gcra.specs.declared.verdict.Verdict.TheVariants.{Conforming, TooEarly, NoRate}
use Rattle.abt_node.specs.declared.reply.DropCause.{DropCause}
use Rattle.abt_node.specs.declared.reply.DropCause.TheVariants.{UnknownVc, Stale, Conflict, FloorAbove}

-- ---- carried out

abbrev pub done : ℕ
done = 0

-- of a verdict
abbrev pub verdict_number : Verdict → ℕ
verdict_number Conforming = 1
verdict_number TooEarly = 2
verdict_number NoRate = 3

-- of a source: write these octets, the request goes out, and what an answer made of it
abbrev pub write_first : ℕ
write_first = 8

abbrev pub asked : ℕ
asked = 9

abbrev pub raised : ℕ
raised = 10

abbrev pub refused : ℕ
refused = 11

abbrev pub ignored : ℕ
ignored = 12

-- of a port: the message goes on, the request's no goes back, and why a message goes nowhere
abbrev pub pass : ℕ
pass = 16

abbrev pub refuse : ℕ
refuse = 17

abbrev pub drop_number : DropCause → ℕ
drop_number UnknownVc = 18
drop_number Stale = 19
drop_number Conflict = 20
drop_number FloorAbove = 21

-- ---- refused

abbrev pub first_fault : ℕ
first_fault = 32

-- the state isn't one of this kind
abbrev pub no_state : ℕ
no_state = 33

-- there is another number of octets
abbrev pub wrong_length : ℕ
wrong_length = 34

-- the tolerance, the spacing or the units are out of range
abbrev pub tau_range : ℕ
tau_range = 35

abbrev pub spacing_range : ℕ
spacing_range = 36

abbrev pub units_range : ℕ
units_range = 37

-- the moment is before the last one, or out of range
abbrev pub clock_back : ℕ
clock_back = 38

abbrev pub time_range : ℕ
time_range = 39

-- the rate is zero, or the line is taken up until a later moment
abbrev pub zero_rate : ℕ
zero_rate = 40

abbrev pub too_soon : ℕ
too_soon = 41

-- of a cell that is no request and no answer
abbrev pub rm_number : RmFault → ℕ
rm_number NotRm = 48
rm_number Crc = 49
rm_number Protocol = 50
rm_number Maintenance = 51
rm_number Elastic = 52
rm_number Direction = 53
rm_number SeqZero = 54
rm_number RateOrder = 55

-- a record that can't be written: it is neither a request nor an answer, or has a VPI of more than 12 bits
abbrev pub wrong_kind : ℕ
wrong_kind = 56

abbrev pub vpi_range : ℕ
vpi_range = 57

-- of a source
abbrev pub down : ℕ
down = 64

abbrev pub running : ℕ
running = 65

abbrev pub writing : ℕ
writing = 66

abbrev pub not_writing : ℕ
not_writing = 67

abbrev pub not_asking : ℕ
not_asking = 68

abbrev pub seq_exhausted : ℕ
seq_exhausted = 69

abbrev pub not_kept : ℕ
not_kept = 70

abbrev pub record_spacing : ℕ
record_spacing = 71

-- of a port: the capacity is below the sum of the holds, or above its limit
abbrev pub below_sum : ℕ
below_sum = 72

abbrev pub capacity_range : ℕ
capacity_range = 73

-- of a port's table: the connection is known, no row is left, or the table isn't in order
abbrev pub known : ℕ
known = 74

abbrev pub full : ℕ
full = 75

abbrev pub damaged : ℕ
damaged = 76

-- the connection holds a rate, or its cells aren't policed here
abbrev pub held : ℕ
held = 77

abbrev pub not_ingress : ℕ
not_ingress = 78
