use Rattle.abt_journal.proofs.Through.{IsCounted}
use Rattle.abt_journal.proofs.looks.opening.has_connections.Given as goal

abbrev pub invariant-loop-conn : goal.invariant-loop-conn
invariant-loop-conn l = IsCounted l.state.opening l.port l.net.conns l.conn-index l.through
