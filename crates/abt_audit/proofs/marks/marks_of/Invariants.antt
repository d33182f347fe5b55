-- The marks so far say what is to be said of the entries so far.
use Rattle.std.proofs.Common.{◌≡◌, ◌++◌, drop, map}
use Rattle.abt_audit.specs.Parts.{said_in, said_of}
use Rattle.abt_audit.proofs.marks.marks_of.Given as goal

abbrev pub invariant-loop-one : goal.invariant-loop-one
invariant-loop-one l = map said_in l.marks.items ++ map (said_of l.names l.run) (drop l.one-index l.stuck) ≡ map (said_of l.names l.run) l.stuck
