-- What C reads of the states that it keeps (docs/C.md, "What a state says").
use Rattle.std.specs.Prelude.{ℕ, ◌==◌, if◌then◌else◌}
use Rattle.abt_rate.specs.Code.{code_of}
use Rattle.abt_node.specs.Reservation.{Reservation}
use Rattle.abt_c.specs.Sources.{down_phase}
use Rattle.abt_c.specs.declared.port_look.AbtReservation.{AbtReservation}
use Rattle.abt_c.specs.declared.source_state.AbtSource.{AbtSource}

-- the record of a reservation, with canonical codes
abbrev pub told_of : Reservation → AbtReservation
told_of r = record {
  newest = r.newest;
  is_open = if r.is_open then 1 else 0;
  floor = code_of r.floor;
  ask = code_of r.ask;
}

-- the phase that C is told: a source that waits for a write is in one of its own
abbrev pub writing_phase : ℕ
writing_phase = 3

abbrev pub phase_told : AbtSource → ℕ
phase_told s =
    if s.phase == down_phase then down_phase else (if s.is_writing == 0 then s.phase else writing_phase)
