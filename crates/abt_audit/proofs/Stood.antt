-- A net that stands after events stands after one more.
use Rattle.std.proofs.Common.{◌≡◌, ◌∙◌, ℕ, ◌+◌, ◌<◌, ◌++◌, List, [], ◌∷◌, length, get_or, take, sym, ap, subst}
use Rattle.std.proofs.lemmas.List.{take_more}
use Rattle.abt_model.specs.Outcomes.{after_event}
use Rattle.abt_model.specs.Past.{Past}
use Rattle.abt_model.specs.Run.{facts_after}
use Rattle.abt_model.specs.declared.event.Event.{Event}
use Rattle.abt_model.proofs.Runs.{facts_from_push}
use Rattle.abt_net.specs.Topology.{Topology}
use Rattle.abt_world.specs.Standing.{StandsFor, WorldView}
use Rattle.abt_reason.specs.Sightings.{AreSightings, SightingsView}
use Rattle.abt_audit.specs.Standing.{Stands}

pub stands_on : (net : Topology) (all : List Event) (i : ℕ) (e : Event) (world : WorldView) (sightings : SightingsView) → i < length all
    → e ≡ get_or all i e → StandsFor net (take i all ++ e ∷ []) world → AreSightings net (after_event net (facts_after net (take i all)) e) sightings
    → Stands net (take (i + 1) all) world sightings
stands_on net all i e world sightings low is stands sighted =
    let more : take (i + 1) all ≡ take i all ++ e ∷ [] = take_more all i e low ∙ ap (λ (x : Event). take i all ++ x ∷ []) (sym is) in
    let past_is : facts_after net (take (i + 1) all) ≡ after_event net (facts_after net (take i all)) e =
    ap (facts_after net) more ∙ facts_from_push net [] (take i all) e in
    record {
      world_is = subst (λ es. StandsFor net es world) (sym more) stands;
      sightings_are = subst (λ (p : Past). AreSightings net p sightings) (sym past_is) sighted;
    }
