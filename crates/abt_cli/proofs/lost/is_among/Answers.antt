-- The name is looked for by its octets.
use Rattle.std.proofs.Common.{sym}
use Rattle.abt_cli.proofs.lost.is_among.Goals as goal

pub returns : goal.returns
returns c = rw (sym c.as_bytes.ensures.value) c.is_one_of.ensures
