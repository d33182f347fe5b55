-- The place is behind the blocks so far, and what is left of it.
use Rattle.std.proofs.Common.{◌≡◌, ◌+◌, length, take}
use Rattle.abt_play.specs.UnderWay.{joined}
use Rattle.abt_play.proofs.blocks.place_in.Given as goal

abbrev pub invariant-loop-number : goal.invariant-loop-number
invariant-loop-number l = length (joined (take l.number l.blocks)) + l.within ≡ l.fn.place
