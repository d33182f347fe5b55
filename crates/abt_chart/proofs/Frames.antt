-- One event more: what it told, and what stands in a picture behind it.
use Rattle.std.proofs.Common.{◌≡◌, suc, refl, ap, List, [], ◌∷◌, ◌++◌, length}
use Rattle.abt_chart.specs.declared.told.Told.{Told}
use Rattle.abt_chart.specs.Tellings.{told_of, told_from}
use Rattle.abt_net.specs.Topology.{Topology}
use Rattle.abt_model.specs.declared.event.Event.{Event}
use Rattle.abt_model.specs.Outcomes.{outcome_of, after_event}
use Rattle.abt_model.specs.Past.{Past}
use Rattle.abt_model.specs.Run.{facts_from}
use Rattle.abt_chart.specs.declared.frame.Frame.{Frame}
use Rattle.abt_chart.specs.Frames.{frame_after, frames_from}

pub told_from_push : (net : Topology) (past : Past) (events : List Event) (event : Event) →
    told_from net past (events ++ event ∷ []) ≡ told_from net past events ++ told_of net event (outcome_of net (facts_from net past events) event) ∷ []
told_from_push net past [] event = refl
told_from_push net past (first ∷ events) event =
    ap (λ (l : List Told). told_of net first (outcome_of net past first) ∷ l) (told_from_push net (after_event net past first) events event)

pub frames_from_push : (net : Topology) (past : Past) (events : List Event) (event : Event) →
    frames_from net past (events ++ event ∷ []) ≡ frames_from net past events ++ frame_after net (facts_from net past (events ++ event ∷ [])) ∷ []
frames_from_push net past [] event = refl
frames_from_push net past (first ∷ events) event =
    ap (λ (l : List Frame). frame_after net past ∷ l) (frames_from_push net (after_event net past first) events event)

pub facts_from_append : (net : Topology) (past : Past) (before after : List Event) →
    facts_from net past (before ++ after) ≡ facts_from net (facts_from net past before) after
facts_from_append net past [] after = refl
facts_from_append net past (first ∷ before) after = facts_from_append net (after_event net past first) before after

pub length_told : (net : Topology) (past : Past) (events : List Event) → length (told_from net past events) ≡ length events
length_told net past [] = refl
length_told net past (event ∷ events) = ap suc (length_told net (after_event net past event) events)
