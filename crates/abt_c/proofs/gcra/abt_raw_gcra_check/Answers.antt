use Rattle.abt_gcra.proofs.PolicingLemmas.{checked_windows}
use Rattle.abt_c.proofs.gcra.abt_raw_gcra_check.Goals as goal

pub returns-clause-windows : goal.returns-clause-windows
returns-clause-windows c = λ taken low stands.
    let told = checked_windows _ _ c.check.result c.args.at c.args.spacing taken c.check.ensures.value stands in
    (c.check.result, c.of_verdict.ensures.value, told.0, told.1)
