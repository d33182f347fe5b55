-- The net stands where the events so far leave it.
use Rattle.std.proofs.Common.{take}
use Rattle.abt_audit.specs.Standing.{Stands}
use Rattle.abt_audit.proofs.standing.stand_after.Given as goal

abbrev pub invariant-loop-event : goal.invariant-loop-event
invariant-loop-event l = Stands l.net (take l.event-index l.events) l.world l.sightings
