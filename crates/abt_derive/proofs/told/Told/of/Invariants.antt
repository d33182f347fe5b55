-- The entries so far are told.
use Rattle.std.proofs.Common.{take}
use Rattle.abt_derive.specs.Tells.{IsToldBy}
use Rattle.abt_derive.proofs.told.Told.of.Given as goal

abbrev pub invariant-loop-before : goal.invariant-loop-before
invariant-loop-before l = IsToldBy (take l.before l.entries) l.told
