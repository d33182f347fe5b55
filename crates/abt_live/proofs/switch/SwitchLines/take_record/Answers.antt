-- The answer to a record is said.
use Rattle.abt_live.proofs.Fronts.{on_err}
use Rattle.abt_live.proofs.SwitchSteps.{added_alone, began, recorded}
use Rattle.abt_live.proofs.switch.SwitchLines.take_record.Goals as goal

pub returns-in_err-add_to-clause-err : goal.returns-in_err-add_to-clause-err
returns-in_err-add_to-clause-err g c =
    on_err c.from_residual-in_err-add_to.result _ (began g.J.Write.contents c.args.self.now _ _ _ _ c.in_ok-asked.ensures c.in_ok-answer.ensures.ok)

pub returns-clause-ok : goal.returns-clause-ok
returns-clause-ok g c =
    recorded g.J.Write.contents c.args.self.now _ _ _ c.in_ok-answer.answer _ c.in_ok-asked.ensures (added_alone _ _ _ c.in_ok-add_to.ensures c.requires)
    c.in_ok-answer.ensures.ok
