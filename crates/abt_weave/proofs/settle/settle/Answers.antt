use Rattle.std.proofs.Common.{subst}
use Rattle.abt_weave.specs.Progress.{journaled}
use Rattle.abt_weave.specs.Rounds.{IsAfterRound}
use Rattle.abt_weave.proofs.Whole.{count_low, falls}
use Rattle.abt_weave.proofs.settle.settle.Goals as goal

pub loop-queue-smaller : goal.loop-queue-smaller
loop-queue-smaller c =
    let net = c.args.given.now.net.now in
    let ports = c.args.given.now.ports.now in
    let sources = c.args.given.now.sources.now in
    let after = subst (IsAfterRound net (journaled ports sources) c.loop-queue.progress c.place_next.new.progress c.place_next.new.queue) c.if-not-placed.false c.in_ok-placed.ensures in
    falls ports sources c.loop-queue.progress c.place_next.new.progress after.1 (count_low net ports sources c.place_next.new.progress after.0.progress_is)
