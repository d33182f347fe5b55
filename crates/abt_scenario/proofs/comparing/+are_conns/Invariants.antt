-- Each call has fewer connections to compare.
use Rattle.std.proofs.Common.{length}
use Rattle.abt_scenario.proofs.comparing.+are_conns.Given as goal

abbrev pub decreases-are_conns : goal.decreases-are_conns
decreases-are_conns l = length l.some.now
