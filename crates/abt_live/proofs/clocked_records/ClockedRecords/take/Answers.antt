-- The source has done what it can't say.
use Rattle.std.specs.Option.{option_map}
use Rattle.abt_live.proofs.ClockedSteps.{same_clocked}
use Rattle.abt_live.proofs.Fronts.{on_err}
use Rattle.abt_live.proofs.SourceDeeds.{began}
use Rattle.abt_live.proofs.clocked_records.ClockedRecords.take.Goals as goal

pub returns-in_err-add_to-clause-err : goal.returns-in_err-add_to-clause-err
returns-in_err-add_to-clause-err g c = on_err c.from_residual-in_err-add_to.result _ (record {
  moment = c.moment-moment.result;
  read = c.moment-moment.ensures;
  stops = began g.J.Write.contents c.args.self.now.records.lines _ _ _ _
      (same_clocked c.moment-moment.result (option_map (λ octets. octets.now) c.args.seen) c.in_ok-asked.asked _ c.clocked.result
      c.in_ok-asked.ensures c.clocked.ensures) c.in_ok-answer.ensures.ok;
})
