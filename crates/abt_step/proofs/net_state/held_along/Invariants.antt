-- What the hops so far hold.
use Rattle.std.proofs.Common.{◌≡◌, List, Some, map, take}
use Rattle.std.specs.List.{enumerate_from}
use Rattle.abt_facts.specs.Hop.{held_of}
use Rattle.abt_model.specs.declared.event.Event.{Event}
use Rattle.abt_model.specs.Past.{facts_of}
use Rattle.abt_model.specs.Run.{facts_after}
use Rattle.abt_net.specs.Topology.{Topology, conn_at}
use Rattle.abt_world.specs.Standing.{StandsFor}
use Rattle.abt_step.proofs.net_state.held_along.Given as goal

abbrev pub invariant-loop-before : goal.invariant-loop-before
invariant-loop-before l = (net : Topology) (events : List Event) → StandsFor net events l.world → conn_at net l.place ≡ Some l.conn →
    l.held ≡ map (λ numbered. held_of (facts_of l.place (facts_after net events)) numbered.0) (enumerate_from 1 (take l.before l.conn.path))
