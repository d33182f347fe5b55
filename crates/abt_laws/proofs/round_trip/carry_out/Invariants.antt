use Rattle.std.proofs.Common.{List, ◌++◌}
use Rattle.abt_net.specs.Topology.{Topology}
use Rattle.abt_model.specs.declared.event.Event.{Event}
use Rattle.abt_world.specs.Standing.{StandsFor}
use Rattle.abt_laws.specs.RoundTrips.{out_over}
use Rattle.abt_laws.proofs.round_trip.carry_out.Given as goal

abbrev pub invariant-loop-visited : goal.invariant-loop-visited
invariant-loop-visited l = (net : Topology) (events : List Event) → StandsFor net events l.fn.world → StandsFor net (events ++ out_over l.conn l.seq l.visited) l.world
