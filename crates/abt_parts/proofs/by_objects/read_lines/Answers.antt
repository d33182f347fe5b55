-- The steps of a reader of cells are its answers.
use Rattle.std.proofs.Common.{refl}
use Rattle.abt_parts.proofs.ByObjects.{read_all, read_part}
use Rattle.abt_parts.proofs.Served.{on_err, on_ok}
use Rattle.abt_parts.proofs.by_objects.read_lines.Goals as goal

pub returns-clause-ok : goal.returns-clause-ok
returns-clause-ok g c = on_ok c.serve_lines.result _ _ c.serve_lines.ensures.ok (read_all _ _ _ _ _)

pub returns-clause-err : goal.returns-clause-err
returns-clause-err g c = on_err c.serve_lines.result _ _ c.serve_lines.ensures.err (read_part _ _ _ _)
