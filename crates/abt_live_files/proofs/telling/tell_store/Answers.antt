-- Want of memory is told.
use Rattle.abt_live_files.proofs.Stops.{store_memory}
use Rattle.abt_live_files.proofs.telling.tell_store.Goals as goal

pub returns-in-Memory : goal.returns-in-Memory
returns-in-Memory g c = store_memory c.args.name.now c.args.fault _ _ c.in-Memory.is c.tell_text.ensures
