use Rattle.std.proofs.Common.{◌≡◌, Some, slice_get, arith}
use Rattle.abt_links.proofs.Fitting.{fits_length, fits_at, script_at}
use Rattle.abt_links.proofs.scripts.script_of.Goals as goal

pub returns-clause-conn : goal.returns-clause-conn
returns-clause-conn c = omega (arith, c.requires.within, fits_length c.args.net.now.conns c.args.scripts.now c.requires.fit)

pub returns-clause-jitters : goal.returns-clause-jitters
returns-clause-jitters c line there =
    let given : slice_get c.args.scripts.now c.args.conn ≡ Some c.index-scripts-from.result = script_at c.args.scripts.now c.from.result c.args.conn c.index-scripts-from.result c.from.ensures c.requires.within c.index-scripts-from.is in
    fits_at c.args.net.now.conns c.args.scripts.now c.args.conn line c.index-scripts-from.result c.requires.fit there given
