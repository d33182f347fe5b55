-- All values are those of digits.
use Rattle.std.proofs.Common.{arith}
use Rattle.abt_parts.proofs.hex_digits.octets_of.Goals as goal

pub octets_by-requires : goal.octets_by-requires
octets_by-requires c = λ k low. (
    let below = c.values_of-most.ensures.most k low in
    let most = c.if-most-gt15.false in
    omega (arith, below, most))

pub returns : goal.returns
returns c = c.octets_by.ensures c.args.digits.now c.values_of-most.ensures.values
