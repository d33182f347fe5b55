-- Cells on their way from a shaper over an access line to a policer (docs/RULES.md, "GCRA" and
-- "Shaper"). Lists have the newest first.
use Rattle.std.specs.Prelude.{◌≡◌, ℕ, ◌+◌, ◌<◌, ◌≤◌, List, ◌∷◌, ◌++◌, All, map}
use Rattle.abt_rate.specs.Rate.{spacing_of}
use Rattle.abt_gcra.specs.Windows.{Arrival}

-- a cell that leaves at a moment and at a rate, and arrives where a rate is held for it
pub record Passage : Type 0 where
  pub emitted : ℕ
  pub rate : ℕ
  pub arrived : ℕ
  pub held : ℕ

-- A shaper let the cells leave: each the spacing of the rate of the one before it after that one, or
-- later.
abbrev pub AreShaped : List Passage → Type 0
AreShaped cells =
    (newer older : List Passage) (later earlier : Passage) →
    cells ≡ newer ++ (later ∷ (earlier ∷ older)) →
    earlier.emitted + spacing_of earlier.rate ≤ later.emitted

-- A line delays each cell by its delay, and by at most tau more.
abbrev pub AreDelayed : (delay tau : ℕ) → List Passage → Type 0
AreDelayed delay tau cells =
    All
    (λ cell. (cell.emitted + delay ≤ cell.arrived) × (cell.arrived ≤ cell.emitted + delay + tau))
    cells

-- No cell overtakes another: they arrive in the order in which they left.
abbrev pub AreInOrder : List Passage → Type 0
AreInOrder cells =
    (newer older : List Passage) (later earlier : Passage) →
    cells ≡ newer ++ (later ∷ (earlier ∷ older)) →
    earlier.arrived ≤ later.arrived

-- Each cell left at a rate, and the rate that is held when it arrives is no less.
abbrev pub AreHeldFor : List Passage → Type 0
AreHeldFor cells = All (λ cell. (0 < cell.rate) × (cell.rate ≤ cell.held)) cells

-- the arrivals at the policer
abbrev pub arrivals_of : List Passage → List Arrival
arrivals_of cells = map (λ cell. record { at = cell.arrived; spacing = spacing_of cell.held }) cells
