-- The deeds so far, and those of the entries that are left, are all.
use Rattle.std.proofs.Common.{◌≡◌, ◌+◌, ◌≤◌, drop}
use Rattle.abt_audit.specs.OneLog.{deeds}
use Rattle.abt_audit.proofs.one_log.deeds.Given as goal

abbrev pub invariant-loop-entry : goal.invariant-loop-entry
invariant-loop-entry l = (l.count + deeds (drop l.entry-index l.entries) ≡ deeds l.entries) × (l.count ≤ l.entry-index)
