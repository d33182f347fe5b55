-- A round trip that is played on a world.
use Rattle.std.specs.Prelude.{◌≡◌, ℕ, List, [], ◌∷◌, ◌++◌, length, Option, None, Some}
use Rattle.abt_keep.specs.declared.plan.StorePlan.{StorePlan}
use Rattle.abt_net.specs.declared.conn.Conn.{Conn}
use Rattle.abt_net.specs.Topology.{Topology, conn_at}
use Rattle.abt_model.specs.declared.event.Event.{Event}
use Rattle.abt_model.specs.declared.event.Event.TheVariants.{Ask}
use Rattle.abt_model.specs.declared.outcome.Outcome.{Outcome}
use Rattle.abt_model.specs.declared.outcome.Outcome.TheVariants.{Asked}
use Rattle.abt_model.specs.Past.{Past}
use Rattle.abt_model.specs.Outcomes.{outcome_of}
use Rattle.abt_model.specs.Run.{facts_after, outcomes_from}
use Rattle.abt_world.specs.Standing.{WorldView, StandsFor}
use Rattle.abt_laws.specs.RoundTrips.{round_trip}

-- how many hops the path of a connection has, 0 if the net doesn't have it
abbrev pub hops_by : Option Conn → ℕ
hops_by None = 0
hops_by (Some conn) = length conn.path

abbrev pub hops_of : Topology → (c : ℕ) → ℕ
hops_of net c = hops_by (conn_at net c)

-- a source asks for a rate, and the request that it sends, if it sends one, makes its round trip
abbrev pub story_by : (c hops rate : ℕ) → StorePlan → Outcome → List Event
story_by c hops rate plan (Asked request) = Ask c rate plan ∷ round_trip c request.seq hops
story_by c hops rate plan outcome = Ask c rate plan ∷ []

abbrev pub story_of : Topology → Past → (c rate : ℕ) → StorePlan → List Event
story_of net past c rate plan = story_by c (hops_of net c) rate plan (outcome_of net past (Ask c rate plan))

-- The first of these events have happened behind others, and those that are left haven't.
pub record HaveBegun (net : Topology) (events story : List Event) (world : WorldView) : Type 0 where
  pub done : List Event
  pub left : List Event
  pub parts : done ++ left ≡ story
  pub stands : StandsFor net (events ++ done) world

-- All of them have happened, and this is what the last one answered.
pub record HavePassed (net : Topology) (events story : List Event) (outcome : Outcome) (world : WorldView) : Type 0 where
  pub before : List Outcome
  pub answers : outcomes_from net (facts_after net events) story ≡ before ++ outcome ∷ []
  pub stands : StandsFor net (events ++ story) world
