-- An event that isn't enabled leaves a net as it stands, and one that is makes the list of events longer.
use Rattle.std.proofs.Common.{◌≡◌, ℕ, ◌+◌, ◌<◌, ◌≤◌, refl, ap, sym, subst, List, [], ◌∷◌, ◌++◌, ◌∙◌, length, length-append, Option, None, Some, false, true, arith}
use Rattle.std.specs.Prelude.{All}
use Rattle.std.proofs.lemmas.Bool.{true≢false}
use Rattle.std.proofs.lemmas.List.Elements.{All-push}
use Rattle.abt_facts.specs.declared.fact.Fact.{Fact}
use Rattle.abt_net.specs.Topology.{Topology}
use Rattle.abt_model.specs.Past.{Past, facts_of, with_facts}
use Rattle.abt_model.specs.Outcomes.{conn_of, outcome_of, port_facts_added, past_by, after_event}
use Rattle.abt_model.specs.Run.{facts_after, outcomes_of}
use Rattle.abt_model.specs.declared.event.Event.{Event}
use Rattle.abt_model.specs.declared.event.Event.TheVariants.{Capacity}
use Rattle.abt_model.specs.declared.outcome.Cause.{Cause}
use Rattle.abt_model.specs.declared.outcome.Outcome.{Outcome}
use Rattle.abt_model.specs.declared.outcome.Outcome.TheVariants.{NotEnabled}
use Rattle.abt_model.proofs.Runs.{facts_from_push, outcomes_from_push}
use Rattle.abt_model.proofs.Steps.{down_adds}
use Rattle.abt_world.specs.Standing.{IsOfPast, StandsFor, WorldView}
use Rattle.abt_play.specs.Played.{ArePlayable, IsOfEnabled, events_max, is_enabled}

port_adds_nothing : (past : Past) (event : Event) (cause : Cause) → port_facts_added event (NotEnabled cause) ++ past ≡ past
port_adds_nothing past (Capacity p u) cause = refl
port_adds_nothing past other cause = refl

adds_nothing : (past : Past) (event : Event) (cause : Cause) (o : Option ℕ) → past_by past event (NotEnabled cause) o ≡ past
adds_nothing past event cause None = port_adds_nothing past event cause
adds_nothing past event cause (Some c) = ap (λ (l : List Fact). with_facts c l past) (down_adds (facts_of c past) event cause)

-- what isn't enabled leaves the past
disabled_same : (net : Topology) (past : Past) (event : Event) (cause : Cause) → outcome_of net past event ≡ NotEnabled cause → after_event net past event ≡ past
disabled_same net past event cause is = ap (λ (o : Outcome). past_by past event o (conn_of event)) is ∙ adds_nothing past event cause (conn_of event)

disabled_cause : (o : Outcome) → is_enabled o ≡ false → (cause : Cause) × (o ≡ NotEnabled cause)
disabled_cause (NotEnabled cause) is = (cause, refl)
disabled_cause other is = absurd (true≢false is)

pub stays : (net : Topology) (events : List Event) (event : Event) (outcome : Outcome) (old new : WorldView) → StandsFor net events old
    → outcome ≡ outcome_of net (facts_after net events) event → StandsFor net (events ++ event ∷ []) new → is_enabled outcome ≡ false → StandsFor net events new
stays net events event outcome old new was answer is disabled =
    let cause = disabled_cause outcome disabled in record {
      rates = was.rates;
      stands = subst (λ (past : Past). IsOfPast net past new)
          (facts_from_push net [] events event ∙ disabled_same net (facts_after net events) event cause.0 (sym answer ∙ cause.1)) is.stands;
    }

-- an event more that can be played
pub playable_more : (net : Topology) (events : List Event) (event : Event) (outcome : Outcome) → ArePlayable net events → length events < events_max
    → outcome ≡ outcome_of net (facts_after net events) event → IsOfEnabled outcome → ArePlayable net (events ++ event ∷ [])
playable_more net events event outcome playable room is enabled = record {
  enabled = subst (All IsOfEnabled) (sym (outcomes_from_push net [] events event))
      (All-push IsOfEnabled (outcomes_of net events) (outcome_of net (facts_after net events) event) playable.enabled (subst IsOfEnabled is enabled));
  limit = subst (λ n. n ≤ events_max) (sym (length-append events (event ∷ []))) (omega (arith, room));
}

-- the outcomes with that of an event more
pub outcomes_more : (net : Topology) (events : List Event) (event : Event) (outcome : Outcome) (outcomes : List Outcome) → outcomes ≡ outcomes_of net events
    → outcome ≡ outcome_of net (facts_after net events) event → outcomes ++ outcome ∷ [] ≡ outcomes_of net (events ++ event ∷ [])
outcomes_more net events event outcome outcomes are is =
    ap (λ (os : List Outcome). os ++ outcome ∷ []) are ∙ ap (λ (o : Outcome). outcomes_of net events ++ o ∷ []) is ∙ sym (outcomes_from_push net [] events event)
