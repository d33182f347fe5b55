use Rattle.abt_gcra.proofs.PolicingLemmas.{checked_windows}
use Rattle.abt_gcra.proofs.gcra.Gcra.check.Goals as goal

pub returns-clause-windows : goal.returns-clause-windows
returns-clause-windows c = λ taken stands. checked_windows _ _ _ _ _ taken c.take.ensures stands
