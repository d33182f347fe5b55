-- How the verdict on a cell is found from the windows. What it is found for stands in `Windows`.
use Rattle.std.specs.Prelude.{ℕ, ◌+◌, ◌==◌, List, [], ◌∷◌, Bool, true, ◌&&◌, nat_le, if◌then◌else◌}
use Rattle.abt_rate.specs.Rate.{spacing_of}
use Rattle.abt_gcra.specs.declared.verdict.Verdict.{Verdict}
use Rattle.abt_gcra.specs.declared.verdict.Verdict.TheVariants.{Conforming, TooEarly, NoRate}
use Rattle.abt_gcra.specs.Windows.{Arrival, arrival}

-- Whether the windows that end by a limit are kept, where `owed` is the spacings after the newest of
-- the cells.
abbrev pub keeps : (limit owed : ℕ) → List Arrival → Bool
keeps limit owed [] = true
keeps limit owed (cell ∷ older) =
    nat_le (cell.at + (cell.spacing + owed)) limit && keeps limit (cell.spacing + owed) older

-- whether cells, the newest first, conform
abbrev pub conforms : (tau : ℕ) → List Arrival → Bool
conforms tau [] = true
conforms tau (cell ∷ older) = keeps (cell.at + tau) 0 older && conforms tau older

-- the verdict on a cell, after those that were taken
abbrev pub verdict_of : (tau : ℕ) (taken : List Arrival) → Arrival → Verdict
verdict_of tau taken cell = if conforms tau (cell ∷ taken) then Conforming else TooEarly

-- the verdict on a cell at a moment, where a rate is held
abbrev pub verdict_at : (tau : ℕ) (taken : List Arrival) (at held : ℕ) → Verdict
verdict_at tau taken at held =
    if held == 0 then NoRate else verdict_of tau taken (arrival at (spacing_of held))
