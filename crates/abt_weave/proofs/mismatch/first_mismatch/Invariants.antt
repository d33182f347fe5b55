use Rattle.std.proofs.Common.{◌≡◌}
use Rattle.abt_weave.specs.Actors.{actor_count}
use Rattle.abt_weave.specs.Marks.{AreUnmarked}
use Rattle.abt_weave.proofs.mismatch.first_mismatch.Given as goal

-- none so far is marked
abbrev pub invariant-loop-number : goal.invariant-loop-number
invariant-loop-number l = AreUnmarked l.marks l.number × (l.number-end ≡ actor_count l.given.net.now)
