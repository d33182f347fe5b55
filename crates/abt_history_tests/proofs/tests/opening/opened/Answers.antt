use Rattle.std.proofs.Common.{sym, subst}
use Rattle.abt_journal.specs.Opening.{IsOpening}
use Rattle.abt_history_tests.proofs.Tables.{IsOpening-port}
use Rattle.abt_history_tests.proofs.tests.opening.opened.Goals as goal

pub new-requires : goal.new-requires
new-requires c = subst IsOpening (sym c.in_ok-opening.ensures) (IsOpening-port c.args.net.now c.args.port)
