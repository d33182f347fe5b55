use Rattle.std.proofs.Common.{length}
use Rattle.abt_links.proofs.worker_results.+fault_among.Given as goal

abbrev pub decreases-fault_among : goal.decreases-fault_among
decreases-fault_among g l = length l.results.now
