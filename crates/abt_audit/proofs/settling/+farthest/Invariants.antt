use Rattle.std.proofs.Common.{length}
use Rattle.abt_audit.proofs.settling.+farthest.Given as goal

abbrev pub decreases-farthest : goal.decreases-farthest
decreases-farthest l = length l.places.now
