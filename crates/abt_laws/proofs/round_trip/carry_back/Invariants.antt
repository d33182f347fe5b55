use Rattle.std.proofs.Common.{◌≡◌, List, ◌++◌}
use Rattle.abt_net.specs.Topology.{Topology}
use Rattle.abt_model.specs.declared.event.Event.{Event}
use Rattle.abt_world.specs.Standing.{StandsFor}
use Rattle.abt_laws.specs.RoundTrips.{back_over}
use Rattle.abt_laws.proofs.round_trip.carry_back.Given as goal

abbrev pub invariant-loop-hop : goal.invariant-loop-hop
invariant-loop-hop l =
    (net : Topology) (events : List Event) → StandsFor net events l.fn.world →
    (done : List Event) × (done ++ back_over l.conn l.seq l.hop ≡ back_over l.conn l.seq l.hops) × StandsFor net (events ++ done) l.world

abbrev pub decreases-loop-hop : goal.decreases-loop-hop
decreases-loop-hop l = l.hop
