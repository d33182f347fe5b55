-- The answer is the one that was told.
use Rattle.std.proofs.Common.{rules, inr}
use Rattle.abt_commands.proofs.run_besides.tell_check.Goals as goal

pub returns-in-Ok-answer_of : goal.returns-in-Ok-answer_of
returns-in-Ok-answer_of g c = inr (inr (c.in-Ok-answer_of.answer, search rules, search rules))
