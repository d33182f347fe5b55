use Rattle.abt_cell.proofs.Folds.{check_remainder, check_only}
use Rattle.abt_cell.proofs.crc.without_check.Goals as goal

pub returns-clause-remainder : goal.returns-clause-remainder
returns-clause-remainder c = check_remainder c.args.payload.now c.args.remainder c.last_ten_bits.result c.last_ten_bits.ensures c.requires

pub returns-clause-only : goal.returns-clause-only
returns-clause-only c = λ r other. check_only c.args.payload.now c.args.remainder c.last_ten_bits.result r c.last_ten_bits.ensures c.requires other
