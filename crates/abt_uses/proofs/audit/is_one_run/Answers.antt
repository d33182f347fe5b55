use Rattle.std.proofs.Common.{eqb-true}
use Rattle.abt_uses.proofs.audit.is_one_run.Goals as goal

pub returns : goal.returns
returns g c is = c.perform_audit-status.ensures.ok (eqb-true _ _ is)
