-- A shaper's steps are its answers.
use Rattle.std.proofs.Common.{refl}
use Rattle.abt_parts.proofs.Served.{on_err, on_ok, shaped_all, shaped_part}
use Rattle.abt_parts.proofs.in_words.shape_lines.Goals as goal

pub returns-clause-ok : goal.returns-clause-ok
returns-clause-ok g c = on_ok c.serve_lines.result _ _ c.serve_lines.ensures.ok (shaped_all _ c.args.rate _ _ _ _ _ c.new-shaper.ensures refl)

pub returns-clause-err : goal.returns-clause-err
returns-clause-err g c = on_err c.serve_lines.result _ _ c.serve_lines.ensures.err (shaped_part _ c.args.rate _ _ _ _ c.new-shaper.ensures refl)
