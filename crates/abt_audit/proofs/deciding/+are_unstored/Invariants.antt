use Rattle.std.proofs.Common.{length}
use Rattle.abt_audit.proofs.deciding.+are_unstored.Given as goal

abbrev pub decreases-are_unstored : goal.decreases-are_unstored
decreases-are_unstored l = length l.places.now
