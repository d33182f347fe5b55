-- What is left behind the cells that left before stays the same.
use Rattle.std.proofs.Common.{◌≡◌, length}
use Rattle.abt_derive.specs.Lists.{behind_first}
use Rattle.abt_derive.specs.Walks.{left_before}
use Rattle.abt_derive.proofs.walk.from_entry.Given as goal

abbrev pub invariant-loop-first : goal.invariant-loop-first
invariant-loop-first l = behind_first (left_before l.behind) l.all ≡ behind_first (left_before l.behind) l.left

abbrev pub decreases-loop-first : goal.decreases-loop-first
decreases-loop-first l = length l.left
