-- The scenario was read, and has no play.
use Rattle.std.proofs.Common.{inr, subst}
use Rattle.abt_play.specs.Fitting.{IsWhyNone}
use Rattle.abt_play.proofs.performing.played_from.Goals as goal

pub returns-in-Err-clause-err : goal.returns-in-Err-clause-err
returns-in-Err-clause-err g c =
    let net = c.in_ok-scenario.scenario.net in
    let operator = c.in_ok-scenario.scenario.operator in
    inr (record {
      scenario = c.in_ok-scenario.scenario;
      read = c.in_ok-scenario.ensures.ok;
      why = c.in-Err.why;
      named = c.from.ensures;
      unplayed = subst (λ scripts. IsWhyNone net scripts operator c.in-Err.why) c.as_slice.ensures
          (subst (λ operations. IsWhyNone net c.as_slice.result.now operations c.in-Err.why) c.as_slice-2.ensures c.in-Err.ensures.err);
    })
