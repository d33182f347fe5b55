-- The values so far, and the greatest of them.
use Rattle.std.proofs.Common.{◌≡◌, ◌<◌, ◌≤◌, ℕ, length, get_or}
use Rattle.abt_parts.specs.HexValues.{value_or_16}
use Rattle.abt_parts.proofs.hex_digits.values_of.Given as goal

abbrev pub invariant-loop-index : goal.invariant-loop-index
invariant-loop-index l = record {
  long : length l.values ≡ 104;
  are : (k : ℕ) → k < l.index → get_or l.values k 0 ≡ value_or_16 (get_or l.digits k 0);
  most : (k : ℕ) → k < l.index → get_or l.values k 0 ≤ l.most;
}
