-- The number that the net finds is the one that its list of connections has.
use Rattle.abt_audit.proofs.Numbered.{number_is}
use Rattle.abt_audit.proofs.finding.number_in.Goals as goal

pub returns : goal.returns
returns c = number_is c.args.net.now.conns c.args.vc c.find.result c.find.ensures.value c.find.ensures.only
