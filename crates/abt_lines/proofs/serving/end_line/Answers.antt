-- The line that ends with the input is answered.
use Rattle.std.proofs.Common.{arith}
use Rattle.abt_lines.proofs.Fed.{ended_line}
use Rattle.abt_lines.proofs.serving.end_line.Goals as goal

pub returns-clause-ok : goal.returns-clause-ok
returns-clause-ok g c =
    ended_line _ _ _ _ _ _ _ _ c.answer.ensures.ok c.args.begun.now.whole (grind (arith, c.is_empty.ensures, c.if-is_empty.false))
