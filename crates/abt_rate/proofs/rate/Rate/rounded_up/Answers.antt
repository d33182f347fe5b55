use Rattle.std.proofs.Common.{arith, ◌≤◌, ◌*◌, ◌^◌}
use Rattle.abt_rate.proofs.Rates.{ceil_rate, ceil_lowest, shifted, one_shifted}
use Rattle.abt_rate.proofs.rate.Rate.rounded_up.Goals as goal

pub invariant_of-result : goal.invariant_of-result
invariant_of-result c =
    let bound : c.max-units.result ≤ 1023 * 2 ^ 31 = omega arith in
    let rate = ceil_rate _ _ c.exponent_at-exponent.ensures bound in
    rw (c.div_ceil.ensures, one_shifted c.exponent_at-exponent.result c.exponent_at-exponent.ensures.fits, shifted _ rate) rate

pub returns : goal.returns
returns c =
    let bound : c.max-units.result ≤ 1023 * 2 ^ 31 = omega arith in
    let rate = ceil_rate _ _ c.exponent_at-exponent.ensures bound in
    rw (c.div_ceil.ensures, one_shifted c.exponent_at-exponent.result c.exponent_at-exponent.ensures.fits, shifted _ rate)
    (ceil_lowest _ _ _ c.exponent_at-exponent.ensures c.requires.positive c.max-units.ensures bound)
