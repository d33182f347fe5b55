-- Cells that are handed in together, as pairs of arrival and spacing, and the first that is refused.
use Rattle.std.specs.Prelude.{ℕ, zero, suc, ◌<◌, ◌≤◌, List, length, map, slice_index}
use Rattle.abt_rate.specs.Limits.{arrive_max}
use Rattle.abt_gcra.specs.declared.fault.GcraFault.{GcraFault}
use Rattle.abt_gcra.specs.declared.fault.GcraFault.TheVariants.{ClockBack, TimeRange}
use Rattle.abt_gcra.specs.Windows.{Arrival, arrival}

abbrev pub arrivals_in : List (ℕ × ℕ) → List Arrival
arrivals_in pairs = map (λ pair. arrival pair.0 pair.1) pairs

-- when each cell arrives
abbrev pub moments_in : List (ℕ × ℕ) → List ℕ
moments_in pairs = map (λ pair. pair.0) pairs

-- the clock before a cell: the arrival of the one before it, and 0 at first
abbrev pub clock_before : List ℕ → ℕ → ℕ
clock_before moments zero = 0
clock_before moments (suc index) = slice_index moments index

-- A cell is refused if the clock would go back, or else if it arrives too late to be timed.
abbrev pub IsRefused : List ℕ → ℕ → GcraFault → Type 0
IsRefused moments index ClockBack = slice_index moments index < clock_before moments index
IsRefused moments index TimeRange =
    (clock_before moments index ≤ slice_index moments index) ×
    (arrive_max < slice_index moments index)

-- the first cell that is refused, and why
pub record IsFirstRefused (moments : List ℕ) (index : ℕ) (fault : GcraFault) : Type 0 where
  pub within : index < length moments
  pub refused : IsRefused moments index fault
  pub first : (before : ℕ) (other : GcraFault) → before < index → ¬ IsRefused moments before other
