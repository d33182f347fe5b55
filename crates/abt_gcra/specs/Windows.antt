-- The windows between cells that a policer of a tolerance keeps, and its verdicts (I.371, the generic
-- cell rate algorithm; docs/RULES.md, "GCRA"). Lists of cells that were taken have the newest first.
use Rattle.std.specs.Prelude.{◌≡◌, ◌≢◌, ℕ, ◌+◌, ◌≤◌, List, [], ◌∷◌, ◌++◌, sum_by}
use Rattle.abt_rate.specs.Rate.{spacing_of}
use Rattle.abt_gcra.specs.declared.verdict.Verdict.{Verdict}
use Rattle.abt_gcra.specs.declared.verdict.Verdict.TheVariants.{Conforming, TooEarly, NoRate}

-- a cell that arrives: when, and the spacing from it to the next one
pub record Arrival : Type 0 where
  pub at : ℕ
  pub spacing : ℕ

abbrev pub arrival : (at spacing : ℕ) → Arrival
arrival at spacing = record { at = at; spacing = spacing }

-- the spacings of cells, added up
abbrev pub spacings : List Arrival → ℕ
spacings cells = sum_by (λ cell. cell.spacing) cells

-- Between any two cells lie the spacings from the earlier one up to the later one, but for the
-- tolerance.
abbrev pub Conforms : ℕ → List Arrival → Type 0
Conforms tau cells =
    (newer between older : List Arrival) (later earlier : Arrival) →
    cells ≡ newer ++ (later ∷ (between ++ (earlier ∷ older))) →
    earlier.at + (earlier.spacing + spacings between) ≤ later.at + tau

-- The verdict on a cell, after those that were taken: it is conforming exactly if they and it do
-- conform.
abbrev pub IsVerdict : (tau : ℕ) (taken : List Arrival) → Arrival → Verdict → Type 0
IsVerdict tau taken cell Conforming = Conforms tau (cell ∷ taken)
IsVerdict tau taken cell TooEarly = ¬ Conforms tau (cell ∷ taken)
IsVerdict tau taken cell NoRate = ⊥

-- The verdict on a cell at a moment, where a rate is held.
abbrev pub IsVerdictAt : (tau : ℕ) (taken : List Arrival) (at held : ℕ) → Verdict → Type 0
IsVerdictAt tau taken at held Conforming =
    (held ≢ 0) × Conforms tau (arrival at (spacing_of held) ∷ taken)
IsVerdictAt tau taken at held TooEarly =
    (held ≢ 0) × ¬ Conforms tau (arrival at (spacing_of held) ∷ taken)
IsVerdictAt tau taken at held NoRate = held ≡ 0

-- the cells that were taken, after a verdict on one more: it is taken if it is conforming
abbrev pub taken_after : List Arrival → Arrival → Verdict → List Arrival
taken_after taken cell Conforming = cell ∷ taken
taken_after taken cell TooEarly = taken
taken_after taken cell NoRate = taken

-- The verdicts on cells from left to right, after those that were taken.
abbrev pub AreVerdicts : (tau : ℕ) (taken cells : List Arrival) → List Verdict → Type 0
AreVerdicts tau taken [] verdicts = verdicts ≡ []
AreVerdicts tau taken (cell ∷ cells) [] = ⊥
AreVerdicts tau taken (cell ∷ cells) (verdict ∷ verdicts) =
    IsVerdict tau taken cell verdict ×
    AreVerdicts tau (taken_after taken cell verdict) cells verdicts
