-- A stage after an event that was tried on it.
use Rattle.std.proofs.Common.{◌≡◌, ◌<◌, ap, sym, subst, List, [], ◌∷◌, ◌++◌, ◌∙◌, length, true, false}
use Rattle.abt_net.specs.Topology.{Topology}
use Rattle.abt_model.specs.Outcomes.{outcome_of}
use Rattle.abt_model.specs.Run.{facts_after, outcomes_of}
use Rattle.abt_model.specs.declared.event.Event.{Event}
use Rattle.abt_model.specs.declared.outcome.Outcome.{Outcome}
use Rattle.abt_world.specs.Standing.{StandsFor, WorldView}
use Rattle.abt_play.specs.Played.{ArePlayable, events_max, is_enabled}
use Rattle.abt_play.specs.Stage.{IsOnStage}
use Rattle.abt_play.specs.declared.stage.Stage.{Stage}
use Rattle.abt_play.proofs.Staying.{outcomes_more, playable_more, stays}

-- what a world's step says of an event
abbrev pub Answers : Topology → List Event → Event → Outcome → WorldView → Type 0
Answers net events event outcome world =
    (outcome ≡ outcome_of net (facts_after net events) event) × StandsFor net (events ++ event ∷ []) world

pub passed_over : (net : Topology) (old new : Stage) (event : Event) (outcome : Outcome) → IsOnStage net old
    → Answers net old.events event outcome new.world → new.events ≡ old.events → new.outcomes ≡ old.outcomes → is_enabled outcome ≡ false
    → IsOnStage net new
passed_over net old new event outcome staged step events outcomes disabled = record {
  stands = subst (λ (es : List Event). StandsFor net es new.world) (sym events)
      (stays net old.events event outcome old.world new.world staged.stands step.0 step.1 disabled);
  outcomes = outcomes ∙ staged.outcomes ∙ ap (outcomes_of net) (sym events);
  playable = subst (ArePlayable net) (sym events) staged.playable;
}

pub happened : (net : Topology) (old new : Stage) (world : WorldView) (event : Event) (outcome : Outcome) → IsOnStage net old
    → Answers net old.events event outcome world → new.world ≡ world → new.events ≡ old.events ++ event ∷ []
    → new.outcomes ≡ old.outcomes ++ outcome ∷ [] → is_enabled outcome ≡ true → length old.events < events_max → IsOnStage net new
happened net old new world event outcome staged step same events outcomes enabled room = record {
  stands = subst (λ (w : WorldView). StandsFor net new.events w) (sym same)
      (subst (λ (es : List Event). StandsFor net es world) (sym events) step.1);
  outcomes = outcomes ∙ outcomes_more net old.events event outcome old.outcomes staged.outcomes step.0 ∙ ap (outcomes_of net) (sym events);
  playable = subst (ArePlayable net) (sym events) (playable_more net old.events event outcome staged.playable room step.0 enabled);
}
