-- The state of a shaper (docs/RULES.md, "Shaper").
use Rattle.std.specs.Prelude.{ℕ, ◌<◌, ◌≤◌, Option, IfSome, IsSomeAnd, refl}
use Rattle.std.specs.Coded.{Coded, code_by, coded×, coded_ℕ, coded_option}

-- The earliest moment of the next cell, and the moment of the last one, which is absent until a cell
-- left.
pub record Shaping : Type 0 where
  pub next : ℕ
  pub emitted : Option ℕ

-- it is stored as its two parts
abbrev pub shaping_code : Coded Shaping
shaping_code =
    code_by
    (ℕ × Option ℕ)
    (coded× coded_ℕ (coded_option coded_ℕ))
    (λ s. (s.next, s.emitted))
    (λ p. record { next = p.0; emitted = p.1 })
    (λ _. refl)

-- The states of a shaper: the last cell left no later than the next one may.
abbrev pub IsKept : Shaping → Type 0
IsKept s = IfSome s.emitted (λ last. last ≤ s.next)

-- a moment is before that of the last cell that left
abbrev pub IsBehind : Shaping → ℕ → Type 0
IsBehind s now = IsSomeAnd s.emitted (λ last. now < last)

-- a moment isn't before that of any cell that left
abbrev pub IsOnward : Shaping → ℕ → Type 0
IsOnward s now = IfSome s.emitted (λ last. last ≤ now)
