-- One more event at the end of a list.
use Rattle.std.proofs.Common.{◌≡◌, refl, ap, List, [], ◌∷◌, ◌++◌}
use Rattle.abt_model.specs.Past.{Past}
use Rattle.abt_model.specs.declared.event.Event.{Event}
use Rattle.abt_model.specs.declared.outcome.Outcome.{Outcome}
use Rattle.abt_net.specs.Topology.{Topology}
use Rattle.abt_model.specs.Outcomes.{outcome_of, after_event}
use Rattle.abt_model.specs.Run.{facts_from, outcomes_from}

pub facts_from_push : (net : Topology) (past : Past) (events : List Event) (event : Event) → facts_from net past (events ++ event ∷ []) ≡ after_event net (facts_from net past events) event
facts_from_push net past [] event = refl
facts_from_push net past (first ∷ events) event = facts_from_push net (after_event net past first) events event

pub outcomes_from_push : (net : Topology) (past : Past) (events : List Event) (event : Event) → outcomes_from net past (events ++ event ∷ []) ≡ outcomes_from net past events ++ outcome_of net (facts_from net past events) event ∷ []
outcomes_from_push net past [] event = refl
outcomes_from_push net past (first ∷ events) event = ap (λ (l : List Outcome). outcome_of net past first ∷ l) (outcomes_from_push net (after_event net past first) events event)
