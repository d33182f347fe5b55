-- A policer's steps are its answers.
use Rattle.std.proofs.Common.{refl}
use Rattle.abt_parts.proofs.ByObjects.{policed_all, policed_part}
use Rattle.abt_parts.proofs.Served.{on_err, on_ok}
use Rattle.abt_parts.proofs.by_objects.police_lines.Goals as goal

pub returns-clause-ok : goal.returns-clause-ok
returns-clause-ok g c = on_ok c.serve_lines.result _ _ c.serve_lines.ensures.ok (policed_all c.args.tau c.args.rate _ _ _ _ _ c.new-policer.ensures.value refl)

pub returns-clause-err : goal.returns-clause-err
returns-clause-err g c = on_err c.serve_lines.result _ _ c.serve_lines.ensures.err (policed_part c.args.tau c.args.rate _ _ _ _ c.new-policer.ensures.value refl)
