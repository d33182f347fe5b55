use Rattle.std.proofs.Common.{arith}
use Rattle.abt_history.proofs.book.Book.tally.Goals as goal

pub overflow_add-self : goal.overflow_add-self
overflow_add-self g c = omega (arith, c.requires.low, c.requires.rules.ports, c.requires.rules.connections)
