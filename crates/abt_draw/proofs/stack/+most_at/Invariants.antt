use Rattle.std.proofs.Common.{length}
use Rattle.abt_draw.proofs.stack.+most_at.Given as goal

abbrev pub decreases-most_at : goal.decreases-most_at
decreases-most_at l = length l.frames.now
