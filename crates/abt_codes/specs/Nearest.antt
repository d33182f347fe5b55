-- The rates that codes say, nearest to a quantity.
use Rattle.std.specs.Prelude.{◌≡◌, ℕ, ◌*◌, ◌<◌, ◌≤◌, ◌↔◌, true, IsTrue, Option, IsNone, IfSome, IsSomeAnd, MatchOption}
use Rattle.abt_rate.specs.Extremes.{IsGreatest, IsLeast}
use Rattle.abt_rate.specs.Rate.{IsRate, greatest_units}
use Rattle.abt_format.specs.Values.{rate_of}
use Rattle.abt_text.specs.Text.{Text}
use Rattle.abt_codes.specs.Quantity.{quantity_in}
use Rattle.abt_codes.specs.declared.nearest.SaidRate.{SaidRate}
use Rattle.abt_codes.specs.declared.quantity.Quantity.{Quantity}

-- A number of units is at most, or at least, the quantity.
abbrev pub IsAtMost : Quantity → ℕ → Type 0
IsAtMost quantity units = units * quantity.under ≤ quantity.over

abbrev pub IsAtLeast : Quantity → ℕ → Type 0
IsAtLeast quantity units = quantity.over ≤ units * quantity.under

-- the greatest rate that isn't above a quantity
abbrev pub IsBelow : Quantity → ℕ → Type 0
IsBelow quantity = IsGreatest (λ units. IsRate units × IsAtMost quantity units)

-- the least rate that isn't below it; none, if it is above the greatest rate
pub record IsAbove (quantity : Quantity) (found : Option ℕ) : Type 0 where
  pub none : IsNone found ↔ (greatest_units * quantity.under < quantity.over)
  pub least : IfSome found (IsLeast (λ units. IsRate units × IsAtLeast quantity units))

-- a rate that is just the quantity
abbrev pub IsExactly : Quantity → ℕ → Type 0
IsExactly quantity units = IsRate units × (units * quantity.under ≡ quantity.over)

-- the rate of a code
pub record IsCodes (units : ℕ) (said : SaidRate) : Type 0 where
  pub rate : said.rate ≡ units
  pub exact : said.is_exact ≡ true

-- the greatest rate that isn't above a quantity, and whether it is just that
pub record IsNearest (quantity : Quantity) (said : SaidRate) : Type 0 where
  pub below : IsBelow quantity said.rate
  pub exact : IsTrue said.is_exact ↔ IsExactly quantity said.rate

-- The rate that a word says: that of a code, or else the greatest of a code that isn't above a rate in words.
abbrev pub IsSaid : Text → SaidRate → Type 0
IsSaid word said = MatchOption (rate_of word) (IsSomeAnd (quantity_in word) (λ quantity. IsNearest quantity said)) (λ units. IsCodes units said)
