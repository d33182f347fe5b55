-- A word that names no port, or no source, asks for the log of none.
use Rattle.std.proofs.Common.{◌≡◌, ◌⊎◌, inl, inr}
use Rattle.std.specs.Prelude.{◌^◌, Option, None, Some}
use Rattle.abt_text.specs.Text.{Text}
use Rattle.abt_text.specs.Words.{number_below}
use Rattle.abt_perform.specs.declared.plan.WordsFault.{WordsFault}
use Rattle.abt_perform.specs.declared.plan.WordsFault.TheVariants.{Memory}
use Rattle.abt_weave.specs.declared.actor.Actor.TheVariants as actor
use Rattle.abt_cli.specs.Refused.{IsNoActorIn}

no_port : (word : Text) (source : Option Text) → number_below (2 ^ 16) word ≡ None → IsNoActorIn (Some word) source
no_port word source none None is = (let other = is.0 in absurd (cc))
no_port word source none (Some (actor.Port p)) is = absurd (cc)
no_port word source none (Some (actor.Source c)) is = (let other = is.0 in absurd (cc))

no_source : (word : Text) → number_below (2 ^ 16) word ≡ None → IsNoActorIn None (Some word)
no_source word none None is = (let other = is.1 in absurd (cc))
no_source word none (Some (actor.Port p)) is = absurd (cc)
no_source word none (Some (actor.Source c)) is = (let says = is.1 in absurd (cc))

pub port_refused : (word : Text) (source : Option Text) (fault : WordsFault) → (fault ≡ Memory) ⊎ (number_below (2 ^ 16) word ≡ None)
    → (fault ≡ Memory) ⊎ IsNoActorIn (Some word) source
port_refused word source fault (inl memory) = inl memory
port_refused word source fault (inr none) = inr (no_port word source none)

pub source_refused : (word : Text) (fault : WordsFault) → (fault ≡ Memory) ⊎ (number_below (2 ^ 16) word ≡ None)
    → (fault ≡ Memory) ⊎ IsNoActorIn None (Some word)
source_refused word fault (inl memory) = inl memory
source_refused word fault (inr none) = inr (no_source word none)
