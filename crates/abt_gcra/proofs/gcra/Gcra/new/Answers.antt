use Rattle.std.proofs.Common.{refl}
use Rattle.abt_gcra.proofs.PolicingLemmas.{fresh_stands}
use Rattle.abt_gcra.proofs.gcra.Gcra.new.Goals as goal

pub returns-clause-windows : goal.returns-clause-windows
returns-clause-windows c = fresh_stands _ c.args.tau refl
