use Rattle.std.proofs.Common.{length}
use Rattle.abt_draw.proofs.rates.+most_of.Given as goal

abbrev pub decreases-most_of : goal.decreases-most_of
decreases-most_of l = length l.frames.now
