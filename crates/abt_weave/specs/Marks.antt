-- Marks of actors.
use Rattle.std.specs.Prelude.{◌≡◌, ℕ, ◌<◌, Bool, true, false, List, slice_get, Some}
use Rattle.abt_net.specs.Topology.{Topology}
use Rattle.abt_weave.specs.declared.actor.Stuck.{Stuck}
use Rattle.abt_weave.specs.Actors.{actor_at, place_in}

-- the first so many have no mark
abbrev pub AreUnmarked : List Bool → ℕ → Type 0
AreUnmarked marks n = (i : ℕ) → i < n → slice_get marks i ≡ Some false

-- this is the first that is marked, with its place
pub record IsFirstMark (net : Topology) (marks : List Bool) (sources ports : List ℕ) (stuck : Stuck) : Type 0 where
  pub number : ℕ
  pub marked : slice_get marks number ≡ Some true
  pub before : AreUnmarked marks number
  pub actor_is : stuck.actor ≡ actor_at net number
  pub place_is : stuck.place ≡ place_in sources ports stuck.actor
