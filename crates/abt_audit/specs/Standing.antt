-- Where a net stands after events.
use Rattle.std.specs.Prelude.{List}
use Rattle.abt_model.specs.declared.event.Event.{Event}
use Rattle.abt_model.specs.Run.{facts_after}
use Rattle.abt_net.specs.Topology.{Topology}
use Rattle.abt_world.specs.Standing.{StandsFor, WorldView}
use Rattle.abt_reason.specs.Sightings.{AreSightings, SightingsView}

-- The world and the sightings are those of a net after these events.
pub record Stands (net : Topology) (events : List Event) (world : WorldView) (sightings : SightingsView) : Type 0 where
  pub world_is : StandsFor net events world
  pub sightings_are : AreSightings net (facts_after net events) sightings
