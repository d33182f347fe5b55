-- What fits is granted (docs/RULES.md, "Node").
use Rattle.std.specs.Prelude.{◌≡◌, ◌≢◌, ℕ, ◌+◌, ◌-◌, ◌<◌, ◌≤◌, true, List, ◌∷◌, length, slice_index, Some}
use Rattle.abt_rate.specs.Limits.{number_max}
use Rattle.abt_rate.specs.Rate.{IsRate}
use Rattle.abt_keep.specs.declared.plan.StorePlan.{StorePlan}
use Rattle.abt_keep.specs.declared.plan.StorePlan.TheVariants.{Works}
use Rattle.abt_net.specs.declared.conn.Conn.{Conn}
use Rattle.abt_net.specs.Topology.{Topology, conn_at}
use Rattle.abt_facts.specs.Source.{Down, state_of, rate_of, last_of, writes}
use Rattle.abt_facts.specs.Hop.{held_of}
use Rattle.abt_model.specs.declared.event.Event.{Event}
use Rattle.abt_model.specs.declared.event.Event.TheVariants.{Ask}
use Rattle.abt_model.specs.declared.outcome.Outcome.TheVariants.{Asked}
use Rattle.abt_model.specs.Past.{Past, facts_of}
use Rattle.abt_model.specs.Reserved.{reserved_on, capacity_of}
use Rattle.abt_model.specs.Answers.{next_request}
use Rattle.abt_model.specs.Run.{facts_from, outcomes_from}
use Rattle.abt_laws.specs.RoundTrips.{round_trip, granted_trip}

-- A rate fits at a hop of a connection's path: on the port there, what the others hold and that rate are together within the capacity.
abbrev pub FitsAt : Topology → Past → (c : ℕ) → Conn → (rate hop : ℕ) → Type 0
FitsAt net past c conn rate hop =
    let port = slice_index conn.path (hop - 1) in
    reserved_on net past port - held_of (facts_of c past) hop + rate ≤ capacity_of net past port

-- The source of a connection can ask for a rate, and it fits: the source is up, a number is left, its store works if the ask writes, and
-- the rate fits at every hop.
pub record IsGrantable (net : Topology) (past : Past) (c : ℕ) (conn : Conn) (rate : ℕ) (plan : StorePlan) : Type 0 where
  pub up : state_of (facts_of c past) ≢ Down
  pub number : last_of (facts_of c past) < number_max
  pub store : writes (facts_of c past) rate ≡ true → plan ≡ Works
  pub fits : (hop : ℕ) → 1 ≤ hop → hop ≤ length conn.path → FitsAt net past c conn rate hop

-- the source asks for the rate, and the request makes its round trip, with nothing between
abbrev pub grant_story : Past → (c : ℕ) → Conn → (rate : ℕ) → StorePlan → List Event
grant_story past c conn rate plan = Ask c rate plan ∷ round_trip c (last_of (facts_of c past) + 1) (length conn.path)

-- The story ends in a grant: the request is asked, each hop passes it, each passes its yes back, and the source is raised. Then it
-- shapes at the rate, and each hop of its path holds just that.
pub record EndsInGrant (net : Topology) (past : Past) (c : ℕ) (conn : Conn) (rate : ℕ) (plan : StorePlan) : Type 0 where
  pub outcomes : outcomes_from net past (grant_story past c conn rate plan) ≡ Asked (next_request conn.vc (facts_of c past) rate) ∷ granted_trip (length conn.path)
  pub shapes : rate_of (facts_of c (facts_from net past (grant_story past c conn rate plan))) ≡ rate
  pub holds : (hop : ℕ) → 1 ≤ hop → hop ≤ length conn.path → held_of (facts_of c (facts_from net past (grant_story past c conn rate plan))) hop ≡ rate

-- Whatever happened before: what fits is granted, if nothing else happens meanwhile.
abbrev pub WhatFitsIsGranted : Topology → Past → Type 0
WhatFitsIsGranted net past =
    (c rate : ℕ) (conn : Conn) (plan : StorePlan) → IsRate rate → conn_at net c ≡ Some conn → IsGrantable net past c conn rate plan →
    EndsInGrant net past c conn rate plan
