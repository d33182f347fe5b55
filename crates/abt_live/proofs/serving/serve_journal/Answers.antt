-- The server answers the lines.
use Rattle.abt_live.proofs.ServedWithin.{serves_all, serves_part}
use Rattle.abt_live.proofs.serving.serve_journal.Goals as goal

pub returns-in-Ok-clause-ok : goal.returns-in-Ok-clause-ok
returns-in-Ok-clause-ok g c = (
  c.serve_lines.new.server.server,
  serves_all g.S.JournalServer.steps _ c.serve_lines.new.server _ _ _ c.in-Ok.ensures.ok,
)

pub returns-in-Err-clause-err : goal.returns-in-Err-clause-err
returns-in-Err-clause-err g c = serves_part g.S.JournalServer.steps _ _ _ _ c.in-Err.ensures.err

pub returns-clause-err : goal.returns-clause-err
returns-clause-err g c = serves_part g.S.JournalServer.steps _ _ _ _ c.in-Err.ensures.err
