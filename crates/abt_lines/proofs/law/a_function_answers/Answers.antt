-- What a function says of the answers.
use Rattle.abt_lines.proofs.Runs.{all_served, first_said, part_served}
use Rattle.abt_lines.proofs.law.a_function_answers.Goals as goal

pub returns-clause-all : goal.returns-clause-all
returns-clause-all g c = λ answers is first last left old new all. all_served g.S.LineServer.steps g.S.LineServer.ends answers is first last left old new all

pub returns-clause-part : goal.returns-clause-part
returns-clause-part g c = λ answers is first left old new part. part_served g.S.LineServer.steps g.S.LineServer.ends answers is first left old new part

pub returns-clause-first : goal.returns-clause-first
returns-clause-first g c = λ answers is first lines count text part. first_said g.S.LineServer.steps g.S.LineServer.ends answers is first lines count text part
