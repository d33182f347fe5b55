-- Decreases: requests that ask for no more than their floor (docs/RULES.md, "Node").
use Rattle.std.specs.Prelude.{◌≡◌, ◌⊎◌, ℕ, true, false, List}
use Rattle.abt_node.specs.declared.reply.DropCause.TheVariants.{Stale}
use Rattle.abt_node.specs.declared.reply.Onward.{Onward}
use Rattle.abt_node.specs.declared.reply.Onward.TheVariants.{Pass, Drop}
use Rattle.abt_net.specs.Topology.{Topology}
use Rattle.abt_facts.specs.declared.fact.Fact.{Fact}
use Rattle.abt_facts.specs.Requests.{was_asked, floor_of, ask_of}
use Rattle.abt_facts.specs.Sent.{was_shut}
use Rattle.abt_model.specs.declared.event.Event.TheVariants.{Request}
use Rattle.abt_model.specs.declared.outcome.Outcome.TheVariants.{Requested}
use Rattle.abt_model.specs.Past.{Past, facts_of}
use Rattle.abt_model.specs.Outcomes.{outcome_of}

-- A request that was asked is a decrease if it asks for its floor.
pub record IsDecrease (facts : List Fact) (seq : ℕ) : Type 0 where
  pub asked : was_asked facts seq ≡ true
  pub floor : floor_of facts seq ≡ ask_of facts seq

-- No hop shuts a decrease: neither by a refusal, nor by a no that comes back.
abbrev pub DecreasesAreNeverShut : Topology → Past → Type 0
DecreasesAreNeverShut net past = (c seq hop : ℕ) → IsDecrease (facts_of c past) seq → was_shut (facts_of c past) seq hop ≡ false

-- A decrease that comes to a hop passes, or is dropped as a later request came there before it.
abbrev pub DecreasesPassOrAreStale : Topology → Past → Type 0
DecreasesPassOrAreStale net past =
    (c seq hop : ℕ) (onward : Onward) → IsDecrease (facts_of c past) seq → outcome_of net past (Request c hop seq) ≡ Requested onward →
    (onward ≡ Pass) ⊎ (onward ≡ Drop Stale)
