use Rattle.std.proofs.Common.{◌≡◌, ◌+◌, ◌<◌, ◌≤◌, List, length, take, get_or, rules, arith, subst, sym, refl}
use Rattle.std.specs.Prelude.{sum}
use Rattle.abt_draw.specs.Blocks.{AreBlocks}
use Rattle.abt_draw.specs.declared.block.Block.{Block}
use Rattle.abt_draw.proofs.Stacked.{AreStacked, stacked_more, sum_more, sum_within, are_below}
use Rattle.abt_draw.proofs.block.blocks_of.Goals as goal

pub loop-place-preserved : goal.loop-place-preserved
loop-place-preserved c = λ fits.
    let stack = c.args.stack.now in
    let n = c.loop-place.place in
    let are = c.loop-place.invariant fits in
    let low : n < length stack = search rules in
    let more : sum (take n stack) + get_or stack n 0 ≡ sum (take (n + 1) stack) = sum_more stack n (get_or stack n 0) low refl in
    let within = sum_within stack (n + 1) in
    let above : c.saturating_add-above.result ≡ sum (take (n + 1) stack) = search rules in
    subst (λ (blocks : List Block). AreStacked stack c.args.most blocks c.saturating_add-above.result (n + 1)) (sym c.in_ok-push.ensures.ok)
    (stacked_more stack c.args.most c.loop-place.blocks c.loop-place.below n c.saturating_add-above.result _ are above (search rules) (search rules))

pub returns-clause-below : goal.returns-clause-below
returns-clause-below c = λ capacity le within.
    let fits : sum c.args.stack.now ≤ c.args.most = omega (le, within, arith) in
    let all : AreBlocks c.args.stack.now c.args.most c.loop-place.blocks = search rules in
    are_below c.args.stack.now c.args.most capacity c.loop-place.blocks all le
