-- Each event has one target, and each target one event.
use Rattle.std.proofs.Common.{◌≡◌, ℕ, refl, sym, ap, ◌∙◌}
use Rattle.abt_model.specs.declared.event.Event.{Event}
use Rattle.abt_model.specs.declared.event.Event.TheVariants.{Start, Ask, Again, Crash, Emit, Arrive, Request, Turn, Answer, Told, Capacity}
use Rattle.abt_model.specs.declared.target.SourceEvent.{SourceEvent}
use Rattle.abt_model.specs.declared.target.SourceEvent.TheVariants as source
use Rattle.abt_model.specs.declared.target.HopEvent.{HopEvent}
use Rattle.abt_model.specs.declared.target.HopEvent.TheVariants as hop
use Rattle.abt_model.specs.declared.target.Target.{Target}
use Rattle.abt_model.specs.declared.target.Target.TheVariants.{Source, Hop, End, Port}
use Rattle.abt_model.specs.Targets.{target_of, event_at, event_at_source, event_at_hop}

pub event_there : (e : Event) → event_at (target_of e) ≡ e
event_there (Start c now) = refl
event_there (Ask c rate plan) = refl
event_there (Again c) = refl
event_there (Crash c) = refl
event_there (Emit c now) = refl
event_there (Arrive c cell at) = refl
event_there (Request c j s) = refl
event_there (Turn c s) = refl
event_there (Answer c j s granted) = refl
event_there (Told c s granted) = refl
event_there (Capacity p u) = refl

at_source : (c : ℕ) (x : SourceEvent) → target_of (event_at_source c x) ≡ Source c x
at_source c (source.Start now) = refl
at_source c (source.Ask rate plan) = refl
at_source c source.Again = refl
at_source c source.Crash = refl
at_source c (source.Emit now) = refl
at_source c (source.Told s granted) = refl

at_hop : (c : ℕ) (x : HopEvent) → target_of (event_at_hop c x) ≡ Hop c x
at_hop c (hop.Arrive cell at) = refl
at_hop c (hop.Request j s) = refl
at_hop c (hop.Answer j s granted) = refl

pub target_there : (t : Target) → target_of (event_at t) ≡ t
target_there (Source c x) = at_source c x
target_there (Hop c x) = at_hop c x
target_there (End c s) = refl
target_there (Port p u) = refl

-- the event of a target
pub event_is : (e : Event) (t : Target) → target_of e ≡ t → e ≡ event_at t
event_is e t is = sym (event_there e) ∙ ap event_at is
