-- The past that events leave, by the list of them with the newest first.
use Rattle.std.proofs.Common.{◌≡◌, ap, refl, List, [], ◌∷◌, ◌++◌, ◌∙◌, sym, reverse}
use Rattle.std.proofs.lemmas.List.{reverse-append, reverse-reverse}
use Rattle.abt_net.specs.Topology.{Topology}
use Rattle.abt_model.specs.Past.{Past}
use Rattle.abt_model.specs.declared.event.Event.{Event}
use Rattle.abt_model.specs.Outcomes.{after_event}
use Rattle.abt_model.specs.Run.{facts_after}
use Rattle.abt_model.proofs.Runs.{facts_from_push}
use Rattle.abt_weave.specs.Projections.{past_of}

past-reversed : (net : Topology) (earlier : List Event) → facts_after net (reverse earlier) ≡ past_of net earlier
past-reversed net [] = refl
past-reversed net (event ∷ earlier) =
    ap (facts_after net) (reverse-append (event ∷ []) earlier)
    ∙ facts_from_push net [] (reverse earlier) event
    ∙ ap (λ (past : Past). after_event net past event) (past-reversed net earlier)

pub past-is : (net : Topology) (events : List Event) → facts_after net events ≡ past_of net (reverse events)
past-is net events = ap (facts_after net) (sym (reverse-reverse events)) ∙ past-reversed net (reverse events)

pub pushed : (events : List Event) (event : Event) → reverse (events ++ event ∷ []) ≡ event ∷ reverse events
pushed events event = reverse-append events (event ∷ [])
