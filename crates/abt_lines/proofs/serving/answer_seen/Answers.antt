-- The answer to a line is added to those that were made.
use Rattle.abt_lines.proofs.Fed.{answer_added, step_seen}
use Rattle.abt_lines.proofs.serving.answer_seen.Goals as goal

pub returns-clause-ok : goal.returns-clause-ok
returns-clause-ok g c =
    answer_added _ _ _ _ _ c.add_next.ensures.ok (step_seen g.S.LineServer.steps _ _ _ _ _ _ c.seen_of.ensures c.in_ok-answer.ensures)
