use Rattle.abt_rate.proofs.Rates.{floor_rate, floor_most, shifted}
use Rattle.abt_rate.proofs.rate.Rate.rounded_down.Goals as goal

pub invariant_of-result : goal.invariant_of-result
invariant_of-result c =
    let rate = floor_rate _ _ c.exponent_at-exponent.ensures in
    rw (shifted _ rate) rate

pub returns : goal.returns
returns c =
    let rate = floor_rate _ _ c.exponent_at-exponent.ensures in
    rw (shifted _ rate) (floor_most _ _ _ c.exponent_at-exponent.ensures c.min-units.ensures)
