use Rattle.abt_rate.proofs.Rates.{one_shifted}
use Rattle.std.proofs.Common.{◌≡◌, ◌+◌, ◌*◌, ◌^◌}
use Rattle.abt_rate.specs.Rate.{spacing_of}
use Rattle.abt_c.proofs.Spacings.{spacing_of_mantissa, spacing_in_range}
use Rattle.abt_c.proofs.spacing.spacing_of_parts.Goals as goal

is_spacing : (c : goal.After-div_ceil) → c.div_ceil.result ≡ spacing_of ((512 + c.args.mantissa) * 2 ^ c.args.exponent)
is_spacing c =
    rw (c.div_ceil.ensures, one_shifted c.args.exponent c.requires.exponent) (spacing_of_mantissa c.args.mantissa c.args.exponent 0 c.requires.mantissa)

pub returns-clause-value : goal.returns-clause-value
returns-clause-value c = is_spacing c

pub returns-clause-range : goal.returns-clause-range
returns-clause-range c = spacing_in_range c.args.mantissa c.args.exponent c.div_ceil.result c.requires.mantissa c.requires.exponent (is_spacing c)
