-- What is left behind those that stand there stays the same.
use Rattle.std.proofs.Common.{◌≡◌, length}
use Rattle.abt_derive.specs.Completes.{stands_by}
use Rattle.abt_derive.specs.Lists.{behind_first}
use Rattle.abt_derive.proofs.completing.behind.Given as goal

abbrev pub invariant-loop-next : goal.invariant-loop-next
invariant-loop-next l = behind_first (stands_by l.count) l.derived ≡ behind_first (stands_by l.count) l.left

abbrev pub decreases-loop-next : goal.decreases-loop-next
decreases-loop-next l = length l.left
