-- What is left of the digits spells what is left of the octets.
use Rattle.std.proofs.Common.{◌≡◌, ◌*◌, List, ℕ, length, take, drop}
use Rattle.hex.specs.Hex.{decode_pairs}
use Rattle.hex.proofs.Pairs.{prepend}
use Rattle.abt_parts.specs.HexValues.{HaveValues}
use Rattle.abt_parts.proofs.hex_digits.octets_by.Given as goal

abbrev pub invariant-loop-index : goal.invariant-loop-index
invariant-loop-index l = record {
  long : length l.octets ≡ 52;
  left : (digits : List ℕ) → HaveValues digits l.values →
      decode_pairs 0 digits ≡ prepend (take l.index l.octets) (decode_pairs (2 * l.index) (drop (2 * l.index) digits));
}
