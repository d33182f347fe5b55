-- An octet more is decoded.
use Rattle.std.proofs.Common.{◌+◌, ◌*◌, ◌<◌, ◌∙◌, [], arith, ℕ}
use Rattle.std.specs.List.{slice_index}
use Rattle.std.proofs.lemmas.List.{length-set, length-replicate}
use Rattle.hex.proofs.HexLemmas.{decode_of-even}
use Rattle.hex.proofs.Pairs.{decode_start, decode_step, decode_done}
use Rattle.abt_parts.proofs.Decoding.{pair_is}
use Rattle.abt_parts.proofs.hex_digits.octets_by.Goals as goal

pub loop-index-init : goal.loop-index-init
loop-index-init c = record { long = length-replicate {A = ℕ} 52 0; left = λ digits have. decode_start digits [] }

pub loop-index-preserved : goal.loop-index-preserved
loop-index-preserved c =
    let i = c.loop-index.index in
    let high : 2 * i < 104 = omega (arith, c.loop-index-test.true) in
    let low : 2 * i + 1 < 104 = omega (arith, c.loop-index-test.true) in record {
      long = length-set _ _ _ ∙ c.loop-index.invariant.long;
      left = λ digits have.
          decode_step digits c.loop-index.octets i _ (omega (arith, have.long, c.loop-index-test.true))
          (omega (arith, c.loop-index.invariant.long, c.loop-index-test.true))
          (pair_is (2 * i) (slice_index digits (2 * i)) (slice_index digits (2 * i + 1)) _ _ (have.are (2 * i) high) (have.are (2 * i + 1) low)
          (c.requires (2 * i) high) (c.requires (2 * i + 1) low))
          (c.loop-index.invariant.left digits have);
    }

pub returns : goal.returns
returns c = λ digits have.
    decode_of-even digits (omega (arith, have.long))
    ∙ decode_done digits c.loop-index.octets c.loop-index.index (omega (arith, c.loop-index.invariant.long, c.loop-index-test.false))
    (omega (arith, have.long, c.loop-index-test.false)) (c.loop-index.invariant.left digits have)
