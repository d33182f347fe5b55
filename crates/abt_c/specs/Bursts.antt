-- A burst of cells at a policer: what as many single calls do, one after the other (docs/C.md, "Bursts").
use Rattle.std.specs.Prelude.{◌≡◌, ℕ, zero, suc, ◌<◌, ◌≤◌, List, Option, None, Some, length, slice_index}
use Rattle.abt_rate.specs.Limits.{arrive_max}
use Rattle.abt_gcra.specs.Policing.{Policing, checked, policed}
use Rattle.abt_gcra.specs.declared.verdict.Verdict.{Verdict}
use Rattle.abt_gcra.specs.declared.verdict.Verdict.TheVariants.{NoRate}
use Rattle.abt_c.specs.Outcome.{verdict_number}

-- a cell at a moment, by the spacing of the rate that is held, if one is
abbrev pub policed_by : Policing → (at : ℕ) → (spacing : Option ℕ) → Verdict × Policing
policed_by p at None = (NoRate, record p { clock = at })
policed_by p at (Some spacing) = checked p at spacing

-- what a policer keeps after the first n cells
unfoldable pub kept_after : Policing → (held : ℕ) → (at : List ℕ) → (n : ℕ) → Policing
kept_after p held at zero = p
kept_after p held at (suc n) = (policed (kept_after p held at n) (slice_index at n) held).1

-- the verdict on the cell that comes after the first n
abbrev pub verdict_after : Policing → (held : ℕ) → (at : List ℕ) → (n : ℕ) → Verdict
verdict_after p held at n = (policed (kept_after p held at n) (slice_index at n) held).0

-- A cell at a moment gets a verdict.
abbrev pub IsOnward : Policing → (at : ℕ) → Type 0
IsOnward p at = (p.clock ≤ at) × (at ≤ arrive_max)

-- The first n cells got their verdicts, each written at its place, and the rest got none.
pub record AreJudged (old new : Policing) (held : ℕ) (at before after : List ℕ) (n : ℕ) : Type 0 where
  pub within : n ≤ length at
  pub onward : (i : ℕ) → i < n → IsOnward (kept_after old held at i) (slice_index at i)
  pub kept : new ≡ kept_after old held at n
  pub verdicts : (i : ℕ) → i < n → slice_index after i ≡ verdict_number (verdict_after old held at i)
  pub rest : (i : ℕ) → n ≤ i → slice_index after i ≡ slice_index before i
