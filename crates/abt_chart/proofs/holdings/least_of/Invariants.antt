-- The least that the hops so far hold.
use Rattle.std.proofs.Common.{◌≡◌, ◌≤◌, List, Some, length}
use Rattle.abt_net.specs.declared.conn.Conn.{Conn}
use Rattle.abt_net.specs.Topology.{Topology, conn_at}
use Rattle.abt_model.specs.declared.event.Event.{Event}
use Rattle.abt_model.specs.Past.{facts_of}
use Rattle.abt_model.specs.Run.{facts_after}
use Rattle.abt_world.specs.Standing.{StandsFor}
use Rattle.abt_chart.specs.Frames.{least_held}
use Rattle.abt_chart.proofs.holdings.least_of.Given as goal

abbrev pub invariant-loop-before : goal.invariant-loop-before
invariant-loop-before l = (net : Topology) (events : List Event) (conn : Conn) → StandsFor net events l.world →
    conn_at net l.place ≡ Some conn → l.hops ≤ length conn.path → l.least ≡ least_held (facts_of l.place (facts_after net events)) l.before
