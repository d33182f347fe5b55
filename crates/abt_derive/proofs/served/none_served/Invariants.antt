-- Nothing was served of those so far.
use Rattle.abt_derive.specs.Serves.{IsNothingServed}
use Rattle.abt_derive.proofs.served.none_served.Given as goal

abbrev pub invariant-loop-conn : goal.invariant-loop-conn
invariant-loop-conn l = IsNothingServed l._conn-index l.served
