-- The rate reserved on a port, and its capacity.
use Rattle.std.specs.Prelude.{ℕ, ◌==◌, List, [], ◌∷◌, if◌then◌else◌, sum_by, slice_index}
use Rattle.std.specs.List.{enumerate_from}
use Rattle.abt_net.specs.Paths.{hop_of}
use Rattle.abt_net.specs.Topology.{Topology}
use Rattle.abt_facts.specs.declared.fact.Fact.{Fact}
use Rattle.abt_facts.specs.Hop.{held_of}
use Rattle.abt_model.specs.declared.net_fact.NetFact.TheVariants.{OfConn, Capped}
use Rattle.abt_model.specs.Past.{Past, facts_of}

-- the rate that a connection holds on a port: nothing if its path doesn't go through it
abbrev pub held_on : List Fact → List ℕ → ℕ → ℕ
held_on facts path p = if hop_of path p == 0 then 0 else held_of facts (hop_of path p)

-- the rate that all connections hold on a port together
abbrev pub reserved_on : Topology → Past → ℕ → ℕ
reserved_on net past p = sum_by (λ numbered. held_on (facts_of numbered.0 past) numbered.1.path p) (enumerate_from 0 net.conns)

-- the capacity of a port that is in force after a past: the last one that was set, else the one that the net gives it
abbrev pub capacity_of : Topology → Past → ℕ → ℕ
capacity_of net [] p = slice_index net.capacities p
capacity_of net (Capped port capacity ∷ past) p = if port == p then capacity else capacity_of net past p
capacity_of net (OfConn conn fact ∷ past) p = capacity_of net past p
