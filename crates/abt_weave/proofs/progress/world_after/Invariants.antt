use Rattle.std.proofs.Common.{take}
use Rattle.abt_world.specs.Standing.{StandsFor}
use Rattle.abt_weave.proofs.progress.world_after.Given as goal

-- the world stands for the events so far
abbrev pub invariant-loop-event : goal.invariant-loop-event
invariant-loop-event l = StandsFor l.given.net.now (take l.event-index l.events) l.world
