-- What has become of the journal is completed by the same entries as at first, and has the derived ones so far more.
use Rattle.std.proofs.Common.{take}
use Rattle.abt_derive.specs.Completes.{Grows, HasMore, derived_lines}
use Rattle.abt_derive.proofs.completing.Completed.add_all.Given as goal

abbrev pub invariant-loop-one : goal.invariant-loop-one
invariant-loop-one l = Grows l.first l.initial.self l.self × HasMore (derived_lines l.first (take l.one-index l.derived)) l.initial.self l.self
