-- The port so far, with the entries that are left, comes to the same as the port before all of them.
use Rattle.std.proofs.Common.{◌≡◌, [], drop}
use Rattle.abt_journal.specs.Replay.{replay}
use Rattle.abt_model.specs.PortTable.{port_table}
use Rattle.abt_audit.proofs.protocol.port_after.Given as goal

abbrev pub invariant-loop-entry : goal.invariant-loop-entry
invariant-loop-entry l = replay l.port (drop l.entry-index l.entries) ≡ replay (port_table l.net [] l.id) l.entries
