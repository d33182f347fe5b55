-- The steps of a port are its answers.
use Rattle.std.proofs.Common.{refl}
use Rattle.abt_parts.proofs.Served.{on_err, on_ok, served_all, served_part}
use Rattle.abt_parts.proofs.in_words.serve_cells.Goals as goal

pub returns-clause-ok : goal.returns-clause-ok
returns-clause-ok g c = on_ok c.serve_lines.result _ _ c.serve_lines.ensures.ok (served_all _ _ _ _ _ _ c.in_ok-port.ensures)

pub returns-clause-err : goal.returns-clause-err
returns-clause-err g c = on_err c.serve_lines.result _ _ c.serve_lines.ensures.err (served_part _ _ _ _ _ c.in_ok-port.ensures)
