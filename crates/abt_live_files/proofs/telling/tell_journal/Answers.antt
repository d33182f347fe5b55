-- Want of memory is told.
use Rattle.abt_live_files.proofs.Stops.{journal_memory}
use Rattle.abt_live_files.proofs.telling.tell_journal.Goals as goal

pub returns-in-Memory : goal.returns-in-Memory
returns-in-Memory g c = journal_memory c.args.name.now c.args.fault _ _ c.in-Memory.is c.tell_text.ensures
