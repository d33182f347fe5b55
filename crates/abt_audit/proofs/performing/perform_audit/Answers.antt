-- What is shown of a run is shown whole.
use Rattle.abt_audit.proofs.Judged.{shown_whole}
use Rattle.abt_audit.proofs.performing.perform_audit.Goals as goal

pub returns-in-Ok-clause-ok : goal.returns-in-Ok-clause-ok
returns-in-Ok-clause-ok g c = λ zero. shown_whole _ _ c.in-Ok.run' _ _ c.in-Ok.ensures.ok
