use Rattle.std.proofs.Common.{◌∙◌, sym}
use Rattle.abt_rate.proofs.Rates.{units_of_code, only_code, code-of}
use Rattle.abt_rate.proofs.rate.Rate.code.Goals as goal

pub returns-clause-units : goal.returns-clause-units
returns-clause-units c =
    rw c.nonzero_code.ensures (units_of_code _ _ c.exponent_at-exponent.ensures c.self.invariant ∙ c.self.view_is)

pub returns-clause-only : goal.returns-clause-only
returns-clause-only c = λ code canonical is.
    rw c.nonzero_code.ensures (only_code _ _ code c.exponent_at-exponent.ensures canonical (rw c.self.view_is is))

pub returns-clause-value : goal.returns-clause-value
returns-clause-value c =
    rw (c.nonzero_code.ensures, ← c.self.view_is) (sym (code-of _ _ c.exponent_at-exponent.ensures c.self.invariant))
