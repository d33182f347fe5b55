-- Pictures of the scenarios of texts.
use Rattle.std.specs.Prelude.{◌≡◌, ◌⊎◌, []}
use Rattle.abt_places.specs.Placed.{IsPlacedIn}
use Rattle.abt_places.specs.declared.placed.Placed.{Placed}
use Rattle.abt_scenario.specs.Engine.{Explains}
use Rattle.abt_scenario.specs.declared.engine.EngineFault.{EngineFault}
use Rattle.abt_text.specs.Text.{Text}
use Rattle.abt_draw.specs.Drawn.{IsUndrawn}
use Rattle.abt_draw.specs.Pictures.{IsPicture}
use Rattle.abt_draw.specs.declared.fault.DrawFault.{DrawFault}
use Rattle.abt_draw.specs.declared.fault.DrawFault.TheVariants.{Engine}
use Rattle.abt_plans.specs.declared.picture.PicturePlan.{PicturePlan}
use Rattle.abt_draw.specs.declared.scene.Scene.{Scene}

-- What is drawn are the events of the scenario of a text, over its net, each with its line; no journal is stuck.
pub record IsSceneOf (source : Text) (scene : Scene) : Type 0 where
  pub placed : Placed
  pub is_placed : IsPlacedIn placed source
  pub net : scene.net.now ≡ placed.scenario.net
  pub events : scene.events.now ≡ placed.scenario.events
  pub lines : scene.lines.now ≡ placed.lines.items
  pub stuck : scene.stuck.now ≡ []

pub record IsDrawing (plan : PicturePlan) (text source : Text) : Type 0 where
  pub scene : Scene
  pub is_scene : IsSceneOf source scene
  pub picture : IsPicture plan scene text

-- The text is no scenario, or what the plan asks for isn't drawn.
pub record IsUnread (fault : DrawFault) (source : Text) : Type 0 where
  pub engine : EngineFault
  pub is : fault ≡ Engine engine
  pub explains : Explains engine source

pub record IsUndrawable (plan : PicturePlan) (fault : DrawFault) (source : Text) : Type 0 where
  pub scene : Scene
  pub is_scene : IsSceneOf source scene
  pub undrawn : IsUndrawn plan scene.net.now scene.events.now fault

abbrev pub IsNoDrawing : PicturePlan → DrawFault → (source : Text) → Type 0
IsNoDrawing plan fault source = IsUnread fault source ⊎ IsUndrawable plan fault source
