-- What is drawn is the scenario that was read.
use Rattle.std.proofs.Common.{◌≡◌, inr, refl, ℕ, List, [], string_bytes}
use Rattle.std.specs.Prelude.{Option, None, Some, Ok, Err, Result, IfOk, IfErr, IfSome}
use Rattle.abt_net.specs.Topology.{Topology}
use Rattle.abt_model.specs.declared.event.Event.{Event}
use Rattle.abt_places.specs.Placed.{IsPlacedIn}
use Rattle.abt_places.specs.declared.placed.Placed.{Placed}
use Rattle.abt_text.specs.Text.{Text}
use Rattle.abt_draw.specs.Drawings.{IsDrawing, IsNoDrawing}
use Rattle.abt_draw.specs.Drawn.{IsUndrawn}
use Rattle.abt_draw.specs.Pictures.{IsPicture}
use Rattle.abt_draw.specs.declared.fault.DrawFault.{DrawFault}
use Rattle.abt_plans.specs.declared.picture.PicturePlan.{PicturePlan}
use Rattle.abt_draw.specs.declared.scene.Scene.{Scene}
use Rattle.abt_draw.proofs.drawing.drawing_of.Goals as goal

drawn : (plan : PicturePlan) (scene : Scene) (placed : Placed) (left : Option Text) (text : Text) → IfSome left (IsPlacedIn placed)
    → scene.net.now ≡ placed.scenario.net → scene.events.now ≡ placed.scenario.events → scene.lines.now ≡ placed.lines.items → scene.stuck.now ≡ []
    → IsPicture plan scene text → IfSome left (IsDrawing plan text)
drawn plan scene placed None text is net events lines stuck picture = tt
drawn plan scene placed (Some source) text is net events lines stuck picture = record {
  scene = scene;
  is_scene = record { placed = placed; is_placed = is; net = net; events = events; lines = lines; stuck = stuck };
  picture = picture;
}

undrawn : (plan : PicturePlan) (scene : Scene) (placed : Placed) (left : Option Text) (fault : DrawFault) → IfSome left (IsPlacedIn placed)
    → scene.net.now ≡ placed.scenario.net → scene.events.now ≡ placed.scenario.events → scene.lines.now ≡ placed.lines.items → scene.stuck.now ≡ []
    → IsUndrawn plan scene.net.now scene.events.now fault → IfSome left (IsNoDrawing plan fault)
undrawn plan scene placed None fault is net events lines stuck why = tt
undrawn plan scene placed (Some source) fault is net events lines stuck why = inr (record {
  scene = scene;
  is_scene = record { placed = placed; is_placed = is; net = net; events = events; lines = lines; stuck = stuck };
  undrawn = why;
})

abbrev scene_of : Topology → List Event → (lines : List ℕ) → Scene
scene_of net events lines = record {
  net = record { ref_ptr = (0, 0); now = net };
  events = record { ref_ptr = (0, 0); now = events };
  lines = record { ref_ptr = (0, 0); now = lines };
  stuck = record { ref_ptr = (0, 0); now = [] };
}

ok_on : {X : Type 0} (r : Result X DrawFault) (P Q : X → Type 0) → ((x : X) → P x → Q x) → IfOk r P → IfOk r Q
ok_on (Ok x) P Q on holds = on x holds
ok_on (Err fault) P Q on holds = tt

err_on : {X : Type 0} (r : Result X DrawFault) (P Q : DrawFault → Type 0) → ((fault : DrawFault) → P fault → Q fault) → IfErr r P → IfErr r Q
err_on (Ok x) P Q on holds = tt
err_on (Err fault) P Q on holds = on fault holds

pub returns-clause-ok : goal.returns-clause-ok
returns-clause-ok g c = ok_on c.picture_of.result _ _
    (λ text is. drawn c.args.plan.now _ c.in_ok-placed.placed (g.R.Read.remaining c.args.reader.now) (string_bytes text) c.in_ok-placed.ensures.ok refl
    c.as_slice.ensures c.as_slice-2.ensures.value refl is)
    c.picture_of.ensures.ok

pub returns-clause-err : goal.returns-clause-err
returns-clause-err g c = err_on c.picture_of.result _ _
    (λ fault why. undrawn c.args.plan.now (scene_of c.in_ok-placed.placed.scenario.net c.as_slice.result.now c.in_ok-placed.placed.lines.items)
    c.in_ok-placed.placed (g.R.Read.remaining c.args.reader.now) fault c.in_ok-placed.ensures.ok refl c.as_slice.ensures refl refl why)
    c.picture_of.ensures.err
