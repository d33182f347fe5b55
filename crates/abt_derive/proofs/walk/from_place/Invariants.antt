-- What is left behind those that tell lower places stays the same.
use Rattle.std.proofs.Common.{◌≡◌, length}
use Rattle.abt_derive.specs.Walks.{from_place}
use Rattle.abt_derive.proofs.walk.from_place.Given as goal

abbrev pub invariant-loop-first : goal.invariant-loop-first
invariant-loop-first l = from_place l.place l.all ≡ from_place l.place l.left

abbrev pub decreases-loop-first : goal.decreases-loop-first
decreases-loop-first l = length l.left
