-- What a policer keeps, and what one cell does to it: the virtual scheduling of I.371 (docs/RULES.md,
-- "GCRA"). The verdicts that this gives are those of `Windows`.
use Rattle.std.specs.Prelude.{ℕ, ◌+◌, ◌≤◌, ◌==◌, Option, Some, None, IfSome, nat_lt, max, unwrap_or, if◌then◌else◌, refl}
use Rattle.std.specs.Coded.{Coded, code_by, coded×, coded_ℕ, coded_option}
use Rattle.abt_rate.specs.Limits.{arrive_max, spacing_max, tau_max}
use Rattle.abt_rate.specs.Rate.{spacing_of}
use Rattle.abt_gcra.specs.declared.verdict.Verdict.{Verdict}
use Rattle.abt_gcra.specs.declared.verdict.Verdict.TheVariants.{Conforming, TooEarly, NoRate}

-- The tolerance; the theoretical arrival time, which is absent until a cell was taken; and the clock,
-- which is the arrival of the last cell that was given a verdict.
pub record Policing : Type 0 where
  pub tau : ℕ
  pub tat : Option ℕ
  pub clock : ℕ

-- it is stored as its three parts
abbrev pub policing_code : Coded Policing
policing_code =
    code_by
    (ℕ × (Option ℕ × ℕ))
    (coded× coded_ℕ (coded× (coded_option coded_ℕ) coded_ℕ))
    (λ p. (p.tau, (p.tat, p.clock)))
    (λ q. record { tau = q.0; tat = q.1.0; clock = q.1.1 })
    (λ _. refl)

-- What a policer can keep: a tolerance within its limit, and a theoretical arrival time that some cell leaves.
abbrev pub IsKept : Policing → Type 0
IsKept p = (p.tau ≤ tau_max) × IfSome p.tat (λ t. t ≤ arrive_max + (tau_max + spacing_max))

-- What a bucket can keep beside its tolerance, at a clock: when it took its last cell, and its level after that one.
abbrev pub IsLevelAt : (clock last level : ℕ) → Type 0
IsLevelAt clock last level = (last ≤ clock) × (level ≤ tau_max + spacing_max)

-- before the first cell
abbrev pub fresh_policing : ℕ → Policing
fresh_policing tau = record { tau = tau; tat = None; clock = 0 }

-- when the next cell is due: the theoretical arrival time, or its own arrival if there is none
abbrev pub due_at : Policing → ℕ → ℕ
due_at p at = unwrap_or p.tat at

-- a cell at a moment, with the spacing from it to the next one: its verdict, and what is kept then
unfoldable pub checked : Policing → (at spacing : ℕ) → Verdict × Policing
checked p at spacing =
    if nat_lt (at + p.tau) (due_at p at)
    then (TooEarly, record p { clock = at })
    else (Conforming, record p { tat = Some (max at (due_at p at) + spacing); clock = at })

-- a cell at a moment, where a rate is held: with none it has no verdict but that
unfoldable pub policed : Policing → (at held : ℕ) → Verdict × Policing
policed p at held =
    if held == 0 then (NoRate, record p { clock = at }) else checked p at (spacing_of held)
