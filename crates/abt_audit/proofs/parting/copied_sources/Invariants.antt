-- The journals so far, and those that are left, are all.
use Rattle.std.proofs.Common.{◌≡◌, ◌++◌, drop}
use Rattle.abt_audit.proofs.parting.copied_sources.Given as goal

abbrev pub invariant-loop-journal : goal.invariant-loop-journal
invariant-loop-journal l = l.copied.items ++ drop l.journal-index l.sources ≡ l.sources
