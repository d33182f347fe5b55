-- The answer to a line is said.
use Rattle.abt_live.proofs.Fronts.{on_err}
use Rattle.abt_live.proofs.SourceDeeds.{answered, began}
use Rattle.abt_live.proofs.SwitchSteps.{added_alone}
use Rattle.abt_live.proofs.source_lines.SourceLines.take.Goals as goal

pub returns-in_err-push_to-clause-err : goal.returns-in_err-push_to-clause-err
returns-in_err-push_to-clause-err g c =
    on_err c.from_residual-in_err-push_to.result _ (began g.J.Write.contents c.args.self.now _ _ _ _ c.in_ok-asked.ensures c.in_ok-answer.ensures.ok)

pub returns-clause-ok : goal.returns-clause-ok
returns-clause-ok g c =
    answered g.J.Write.contents c.args.self.now _ _ _ _ _ c.in_ok-asked.ensures (added_alone _ _ _ c.in_ok-push_to.ensures c.requires)
    c.in_ok-answer.ensures.ok
