-- What every store promises (docs/RULES.md, "Kept records").
use Rattle.std.specs.Prelude.{◌≡◌, ◌⊎◌, ◌<◌, ℕ}

-- A failure was counted: the count of failures rose, or it stood at its greatest value, 2^64 - 1.
abbrev pub IsCounted : (old new : ℕ) → Type 0
IsCounted old new = (old < new) ⊎ (old ≡ 18446744073709551615)
