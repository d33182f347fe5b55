-- The answer to a record is said.
use Rattle.std.proofs.Common.{refl, subst}
use Rattle.abt_live.specs.SourceRecords.{answer_text}
use Rattle.abt_live.specs.SourceSteps.{Does}
use Rattle.abt_live.proofs.Fronts.{on_err}
use Rattle.abt_live.proofs.SourceDeeds.{answered, began}
use Rattle.abt_live.proofs.SwitchSteps.{added_alone}
use Rattle.abt_live.proofs.source_records.SourceRecords.take.Goals as goal

pub returns-in_err-add_to-clause-err : goal.returns-in_err-add_to-clause-err
returns-in_err-add_to-clause-err g c =
    on_err c.from_residual-in_err-add_to.result _ (began g.J.Write.contents c.args.self.now.lines _ _ _ _ c.in_ok-asked.ensures c.in_ok-answer.ensures.ok)

pub returns-clause-ok : goal.returns-clause-ok
returns-clause-ok g c = record {
  answer = c.in_ok-answer.answer;
  does = answered g.J.Write.contents c.args.self.now.lines _ _ _ _ _ c.in_ok-asked.ensures refl c.in_ok-answer.ensures.ok;
  says = added_alone _ _ _ c.in_ok-add_to.ensures c.requires;
  first_port = refl;
}
