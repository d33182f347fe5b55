use Rattle.std.proofs.Common.{◌≡◌, take}
use Rattle.abt_model.specs.Run.{outcomes_of}
use Rattle.abt_world.specs.Standing.{StandsFor}
use Rattle.abt_world.proofs.running.run.Given as goal

abbrev pub invariant-loop-event : goal.invariant-loop-event
invariant-loop-event l = StandsFor l.net (take l.event-index l.events) l.world × (l.outcomes ≡ outcomes_of l.net (take l.event-index l.events))
