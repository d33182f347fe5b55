-- The server answers the lines and cells.
use Rattle.abt_live.proofs.RecordsWithin.{serves_records, serves_some}
use Rattle.abt_live.proofs.record_serving.serve_journal_records.Goals as goal

pub returns-in-Ok-clause-ok : goal.returns-in-Ok-clause-ok
returns-in-Ok-clause-ok g c = (
  c.serve_records.new.server.server,
  serves_records g.S.JournalRecords.steps _ c.serve_records.new.server _ _ _ c.in-Ok.ensures.ok,
)

pub returns-in-Err-clause-err : goal.returns-in-Err-clause-err
returns-in-Err-clause-err g c = serves_some g.S.JournalRecords.steps _ _ _ _ c.in-Err.ensures.err

pub returns-clause-err : goal.returns-clause-err
returns-clause-err g c = serves_some g.S.JournalRecords.steps _ _ _ _ c.in-Err.ensures.err
