-- A value more.
use Rattle.std.proofs.Common.{◌∙◌, arith, ◌≤◌, max}
use Rattle.std.proofs.lemmas.List.{length-set}
use Rattle.abt_parts.proofs.Decoding.{value_next, most_next}
use Rattle.abt_parts.proofs.hex_digits.values_of.Goals as goal

pub loop-index-preserved : goal.loop-index-preserved
loop-index-preserved c =
    let so_far = c.loop-index.invariant in
    let greatest = c.max-most.ensures in record {
      long = length-set _ _ _ ∙ so_far.long;
      are = value_next c.args.digits.now c.loop-index.values c.loop-index.index c.value_of-value.result (omega (arith, so_far.long, c.loop-index-test.true)) so_far.are
          c.value_of-value.ensures;
      most = most_next c.loop-index.values c.loop-index.index c.value_of-value.result c.loop-index.most c.max-most.result
          (omega (arith, so_far.long, c.loop-index-test.true)) so_far.most (omega (arith, greatest)) (omega (arith, greatest));
    }

pub returns : goal.returns
returns c =
    let all = c.loop-index.invariant in
    let over = c.loop-index-test.false in record {
      values = record { long = c.requires; are = λ k low. all.are k (omega (arith, low, over)) };
      most = λ k low. all.most k (omega (arith, low, over));
    }
