-- What is left to settle is settled of what was made of the entries so far.
use Rattle.std.proofs.Common.{length}
use Rattle.abt_audit.proofs.Settled.{IsUnderWay}
use Rattle.abt_audit.proofs.settling.settle.Given as goal

abbrev pub invariant-loop-first : goal.invariant-loop-first
invariant-loop-first l = IsUnderWay l.fn.vc l.fn.places l.initial.entries l.left l.entries

abbrev pub decreases-loop-first : goal.decreases-loop-first
decreases-loop-first l = length l.left
