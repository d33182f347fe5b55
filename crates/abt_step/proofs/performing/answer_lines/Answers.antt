-- The steps of a net are its dialogue.
use Rattle.std.proofs.Common.{subst}
use Rattle.abt_step.specs.Steps.{StandsAt}
use Rattle.abt_step.proofs.Stepping.{on_err, on_ok, served, served_part}
use Rattle.abt_step.proofs.performing.answer_lines.Goals as goal

pub returns-clause-ok : goal.returns-clause-ok
returns-clause-ok g c = on_ok c.serve_lines.result _ _ c.serve_lines.ensures.ok
    (served c.args.form c.args.scenario.now.net c.args.scenario.now.events _ _ _ _ _
    (subst (λ events. StandsAt c.args.form c.args.scenario.now.net events events c.in_ok-lines.lines) c.as_slice.ensures c.in_ok-lines.ensures))

pub returns-clause-err : goal.returns-clause-err
returns-clause-err g c = on_err c.serve_lines.result _ _ c.serve_lines.ensures.err
    (served_part c.args.form c.args.scenario.now.net c.args.scenario.now.events _ _ _ _
    (subst (λ events. StandsAt c.args.form c.args.scenario.now.net events events c.in_ok-lines.lines) c.as_slice.ensures c.in_ok-lines.ensures))
