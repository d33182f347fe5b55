-- The windows of the cells so far.
use Rattle.std.proofs.Common.{◌≡◌, ◌-◌, ◌≤◌, List, max}
use Rattle.std.specs.Prelude.{Some}
use Rattle.abt_model.specs.Past.{facts_of}
use Rattle.abt_model.specs.Run.{facts_after}
use Rattle.abt_model.specs.declared.event.Event.{Event}
use Rattle.abt_net.specs.Topology.{Topology, conn_at}
use Rattle.abt_world.specs.Standing.{StandsFor}
use Rattle.abt_facts.specs.Cells.{fence_of}
use Rattle.abt_step.specs.Possible.{windows_from}
use Rattle.abt_step.proofs.possible.windows_of.Given as goal

abbrev pub invariant-loop-cell : goal.invariant-loop-cell
invariant-loop-cell l = (l.cell ≤ max l.progress.fence l.progress.emitted) × ((net : Topology) (events : List Event) → StandsFor net events l.world → conn_at net l.place ≡ Some l.conn →
    l.windows ≡ windows_from l.place l.conn (facts_of l.place (facts_after net events)) l.progress.fence (l.cell - l.progress.fence))
