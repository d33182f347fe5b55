-- The port has taken the entries so far, these are its numbers, and that is the last one that changed them.
use Rattle.std.proofs.Common.{◌≡◌, [], take}
use Rattle.abt_journal.specs.Replay.{replay}
use Rattle.abt_model.specs.PortTable.{port_table}
use Rattle.abt_audit.specs.Why.{IsLastWithin, numbers_at}
use Rattle.abt_audit.proofs.why.numbers_after.Given as goal

abbrev pub invariant-loop-place : goal.invariant-loop-place
invariant-loop-place l =
    (l.port ≡ replay (port_table l.net [] l.id) (take l.place l.entries)) × (l.numbers ≡ numbers_at l.port l.input)
    × IsLastWithin (port_table l.net [] l.id) l.entries l.input l.place l.last
