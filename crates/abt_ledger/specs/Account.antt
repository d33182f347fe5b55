-- What a ledger shows (docs/RULES.md, "Node").
use Rattle.std.specs.Prelude.{◌≡◌, ℕ, ◌≤◌}
use Rattle.std.specs.Coded.{Coded, coded×, coded_ℕ}
use base.Stored.{coded_via}
use Rattle.std.proofs.Math.Bridge.{le_prop}
use mathlib.Core.HLevel.{Σ_prop_path}

-- the capacity of a link, and the sum of its holds, which is never above it
pub record Account : Type 0 where
  pub capacity : ℕ
  pub total : ℕ
  pub within : total ≤ capacity

-- accounts of the same numbers are one
pub same_account : (a b : Account) → ◌≡◌ {A = ℕ × ℕ} (a.capacity, a.total) (b.capacity, b.total) → a ≡ b
same_account a b e =
    let pairs : ◌≡◌ {A = (p : ℕ × ℕ) × (p.1 ≤ p.0)} ((a.capacity, a.total), a.within) ((b.capacity, b.total), b.within) = Σ_prop_path (λ p. le_prop) e in
    λ i. record { capacity = (pairs i).0.0; total = (pairs i).0.1; within = (pairs i).1 }

-- an account is stored as its two numbers
abbrev pub account_code : Coded Account
account_code = coded_via (coded× coded_ℕ coded_ℕ) (λ a. (a.capacity, a.total)) same_account
