use Rattle.std.proofs.Common.{take}
use Rattle.abt_links.specs.SourceWorkers.{IsBehind, StaysHome, worked}
use Rattle.abt_links.proofs.access.run_script.Given as goal

abbrev pub invariant-loop-command : goal.invariant-loop-command
invariant-loop-command g l =
    IsBehind l.line.conn.now l.initial.worker.site.conn l.line.cell.now.port (take l.command-index l.command-items) (worked l.worker)
    × StaysHome l.initial.worker.site l.worker.site
