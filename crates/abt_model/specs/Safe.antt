-- What is promised of every past.
use Rattle.std.specs.Prelude.{◌≡◌, ℕ, ◌<◌, ◌≤◌, List, [], ◌∷◌, length, Some}
use Rattle.abt_gcra.specs.declared.verdict.Verdict.TheVariants.{Conforming}
use Rattle.abt_net.specs.declared.conn.Conn.{Conn}
use Rattle.abt_net.specs.Topology.{Topology, conn_at}
use Rattle.abt_facts.specs.declared.fact.Fact.{Fact}
use Rattle.abt_facts.specs.declared.fact.Fact.TheVariants.{Arrived}
use Rattle.abt_facts.specs.Source.{rate_of}
use Rattle.abt_facts.specs.Hop.{held_of}
use Rattle.abt_model.specs.Past.{Past, facts_of}
use Rattle.abt_model.specs.Reserved.{reserved_on, capacity_of}

-- each cell that arrived was found conforming
abbrev pub AllConform : List Fact → Type 0
AllConform [] = Unit {0}
AllConform (Arrived cell at rate verdict ∷ facts) = (verdict ≡ Conforming) × AllConform facts
AllConform (fact ∷ facts) = AllConform facts

-- No source shapes at a rate above what a hop of its path holds for it, what is reserved on a port is at most its capacity,
-- and each cell that arrived was found conforming.
pub record IsSafe (net : Topology) (past : Past) : Type 0 where
  pub rates : (c : ℕ) (conn : Conn) → conn_at net c ≡ Some conn → (hop : ℕ) → 1 ≤ hop → hop ≤ length conn.path → rate_of (facts_of c past) ≤ held_of (facts_of c past) hop
  pub sums : (port : ℕ) → port < length net.capacities → reserved_on net past port ≤ capacity_of net past port
  pub cells : (c : ℕ) → AllConform (facts_of c past)
