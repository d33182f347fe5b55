-- What is derived of the steps so far, and then of those that are left, is what is derived of all.
use Rattle.std.proofs.Common.{◌≡◌, ◌++◌, drop, vec_items}
use Rattle.abt_derive.specs.Walks.{way_of, derived_from, derived_in}
use Rattle.abt_derive.proofs.walk.derived_of.Given as goal

abbrev pub invariant-loop-one : goal.invariant-loop-one
invariant-loop-one l =
    vec_items l.derived ++ derived_from l.conn l.entries (way_of l.walk) (drop l.one-index l.served) ≡ derived_in l.conn l.entries l.served
