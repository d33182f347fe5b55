use Rattle.std.proofs.Common.{length}
use Rattle.abt_play.proofs.fitting.+scripts_fit.Given as goal

abbrev pub decreases-scripts_fit : goal.decreases-scripts_fit
decreases-scripts_fit l = length l.conns.now
