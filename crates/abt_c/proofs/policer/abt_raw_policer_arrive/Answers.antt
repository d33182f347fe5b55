use Rattle.abt_rate.specs.Rate.{units_of}
use Rattle.abt_gcra.proofs.PolicingLemmas.{policed_windows}
use Rattle.abt_c.proofs.policer.abt_raw_policer_arrive.Goals as goal

pub returns-clause-windows : goal.returns-clause-windows
returns-clause-windows c = λ taken low stands.
    let told = policed_windows _ _ c.police.result c.args.at (units_of c.args.held) taken c.police.ensures.value stands in
    (c.police.result, c.of_verdict.ensures.value, told.0, told.1)
