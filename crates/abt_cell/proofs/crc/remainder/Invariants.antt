use Rattle.std.proofs.Common.{◌+◌, ◌*◌, ◌^◌, ◌<◌, take, bit_xor}
use Rattle.abt_cell.specs.Polynomial.{polynomial_of, IsMultiple}
use Rattle.abt_cell.proofs.crc.remainder.Given as goal

abbrev pub invariant-loop-index : goal.invariant-loop-index
invariant-loop-index l = record {
  low : l.rest < 2 ^ (89 + 7 * l.index);
  same : IsMultiple (bit_xor (polynomial_of (take (12 * l.index) l.payload)) l.rest);
}
