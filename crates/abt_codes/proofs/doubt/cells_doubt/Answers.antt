-- The code that is told is the one that was found.
use Rattle.std.proofs.Common.{rules}
use Rattle.abt_codes.proofs.Doubted.{cells_told}
use Rattle.abt_codes.proofs.doubt.cells_doubt.Goals as goal

pub returns : goal.returns
returns c = cells_told c.args.word.now c.args.cells c.code_below.result c.format.result (rw c.from.ensures at c.code_below.ensures) (search rules)
