-- The octets are no text.
use Rattle.abt_live.proofs.NotedLines.{no_text}
use Rattle.abt_live.proofs.noted.noted_on.Goals as goal

pub returns-in-Err : goal.returns-in-Err
returns-in-Err c = no_text c.args.conn c.args.octets.now c.in-Err.ensures.cases.0
