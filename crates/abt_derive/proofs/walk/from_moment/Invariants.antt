-- What is left behind the cells whose windows have ended stays the same.
use Rattle.std.proofs.Common.{◌≡◌, length}
use Rattle.abt_derive.specs.Lists.{behind_first}
use Rattle.abt_derive.specs.Walks.{has_ended}
use Rattle.abt_derive.proofs.walk.from_moment.Given as goal

abbrev pub invariant-loop-first : goal.invariant-loop-first
invariant-loop-first l = behind_first (has_ended l.conn l.at) l.all ≡ behind_first (has_ended l.conn l.at) l.left

abbrev pub decreases-loop-first : goal.decreases-loop-first
decreases-loop-first l = length l.left
