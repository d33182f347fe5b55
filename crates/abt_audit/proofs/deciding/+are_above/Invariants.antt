use Rattle.std.proofs.Common.{length}
use Rattle.abt_audit.proofs.deciding.+are_above.Given as goal

abbrev pub decreases-are_above : goal.decreases-are_above
decreases-are_above l = length l.places.now
