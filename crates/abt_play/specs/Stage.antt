-- A net at work with the events that happened to it.
use Rattle.std.specs.Prelude.{◌≡◌}
use Rattle.abt_net.specs.Topology.{Topology}
use Rattle.abt_model.specs.Run.{outcomes_of}
use Rattle.abt_world.specs.Standing.{StandsFor}
use Rattle.abt_play.specs.Played.{ArePlayable}
use Rattle.abt_play.specs.declared.stage.Stage.{Stage}

-- The net is where these events lead, which can be played, and the outcomes are theirs.
pub record IsOnStage (net : Topology) (stage : Stage) : Type 0 where
  pub stands : StandsFor net stage.events stage.world
  pub outcomes : stage.outcomes ≡ outcomes_of net stage.events
  pub playable : ArePlayable net stage.events
