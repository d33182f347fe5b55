-- The port has taken the entries so far, and they obey.
use Rattle.std.proofs.Common.{◌≡◌, [], take}
use Rattle.abt_journal.specs.Replay.{replay}
use Rattle.abt_model.specs.PortTable.{port_table}
use Rattle.abt_audit.specs.OneLog.{PortObeys}
use Rattle.abt_audit.proofs.one_log.steps_verdict.Given as goal

abbrev pub invariant-loop-place : goal.invariant-loop-place
invariant-loop-place l = (l.port ≡ replay (port_table l.net [] l.id) (take l.place l.entries)) × PortObeys l.net l.id l.entries l.place
