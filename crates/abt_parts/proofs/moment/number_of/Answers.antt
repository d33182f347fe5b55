-- Octets that aren't text.
use Rattle.abt_parts.proofs.Digits.{no_number}
use Rattle.abt_parts.proofs.moment.number_of.Goals as goal

pub returns-in-Err : goal.returns-in-Err
returns-in-Err c = no_number c.args.octets.now (c.in-Err.ensures.cases.0)
