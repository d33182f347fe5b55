-- What a theoretical arrival time stands for: the cells that were taken (docs/RULES.md, "GCRA").
use Rattle.std.specs.Prelude.{◌≡◌, ℕ, ◌+◌, List, [], ◌∷◌, ◌++◌, Option, MatchOption}
use Rattle.abt_rate.specs.Extremes.{IsGreatest}
use Rattle.abt_gcra.specs.Windows.{Arrival, Conforms, spacings}
use Rattle.abt_gcra.specs.Policing.{Policing}

-- a moment that lies the spacings from one of the cells up to the last one later than that one
abbrev pub IsOwed : List Arrival → ℕ → Type 0
IsOwed cells moment =
    (newer : List Arrival) × (cell : Arrival) × (older : List Arrival) ×
    (cells ≡ newer ++ (cell ∷ older)) × (moment ≡ cell.at + (cell.spacing + spacings newer))

-- The theoretical arrival time stands for cells if it is the greatest such moment, and is absent if
-- there are no cells.
abbrev pub TatStandsFor : Option ℕ → List Arrival → Type 0
TatStandsFor tat cells = MatchOption tat (cells ≡ []) (IsGreatest (IsOwed cells))

-- What a policer keeps stands for the cells that it took.
pub record StandsFor (policing : Policing) (taken : List Arrival) : Type 0 where
  pub conform : Conforms policing.tau taken
  pub tat : TatStandsFor policing.tat taken
