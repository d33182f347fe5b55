-- If the events that are left are said at the places that are left, all are.
use Rattle.std.proofs.Common.{drop}
use Rattle.abt_places.specs.Placed.{SayEvents}
use Rattle.abt_places.proofs.lines_of_events.say_events.Given as goal

abbrev pub invariant-loop-index : goal.invariant-loop-index
invariant-loop-index l = SayEvents l.text (drop l.index l.places) (drop l.index l.events) → SayEvents l.text l.places l.events
