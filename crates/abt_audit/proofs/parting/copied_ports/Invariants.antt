-- The journals so far, and those that are left, are all.
use Rattle.std.proofs.Common.{◌≡◌, ◌++◌, drop}
use Rattle.abt_audit.proofs.Parted.{lists_in}
use Rattle.abt_audit.proofs.parting.copied_ports.Given as goal

abbrev pub invariant-loop-entries : goal.invariant-loop-entries
invariant-loop-entries l = lists_in l.copied.items ++ lists_in (drop l.entries-index l.ports) ≡ lists_in l.ports
