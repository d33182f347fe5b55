-- Of a stack that has room, the blocks so far, and the sum below the next one.
use Rattle.abt_draw.proofs.Stacked.{IsStacked}
use Rattle.abt_draw.proofs.block.blocks_of.Given as goal

abbrev pub invariant-loop-place : goal.invariant-loop-place
invariant-loop-place l = IsStacked l.stack l.most l.blocks l.below l.place
