-- The trace of a run: the outcome of each event, and the state that the events leave in the end (docs/FORMATS.md,
-- "Events and outcomes").
use Rattle.std.specs.Prelude.{◌≡◌, ◌↔◌, ℕ, true, List, map}
use Rattle.std.specs.List.{enumerate_from}
use Rattle.abt_net.specs.Topology.{Topology}
use Rattle.abt_facts.specs.declared.fact.Fact.{Fact}
use Rattle.abt_facts.specs.Source.{rate_of}
use Rattle.abt_facts.specs.Hop.{held_of}
use Rattle.abt_model.specs.declared.event.Event.{Event}
use Rattle.abt_model.specs.Past.{Past, facts_of}
use Rattle.abt_model.specs.Reserved.{reserved_on, capacity_of}
use Rattle.abt_model.specs.Run.{facts_after, outcomes_of}
use Rattle.abt_model.specs.Safe.{IsSafe}
use Rattle.abt_model.specs.declared.trace.Trace.{Trace}

-- the rate of each connection's source
abbrev pub rates_after : Topology → Past → List ℕ
rates_after net past = map (λ numbered. rate_of (facts_of numbered.0 past)) (enumerate_from 0 net.conns)

-- the rate that each hop of a path holds for its connection, the first hop's first
abbrev pub held_along : List Fact → List ℕ → List ℕ
held_along facts path = map (λ numbered. held_of facts numbered.0) (enumerate_from 1 path)

-- the rates that the hops of each connection's path hold for it
abbrev pub held_after : Topology → Past → List (List ℕ)
held_after net past = map (λ numbered. held_along (facts_of numbered.0 past) numbered.1.path) (enumerate_from 0 net.conns)

-- the rate reserved on each port
abbrev pub totals_after : Topology → Past → List ℕ
totals_after net past = map (λ numbered. reserved_on net past numbered.0) (enumerate_from 0 net.capacities)

-- the capacity of each port that is then in force
abbrev pub capacities_after : Topology → Past → List ℕ
capacities_after net past = map (λ numbered. capacity_of net past numbered.0) (enumerate_from 0 net.capacities)

-- A trace is that of these events over a net. It calls the state in the end safe exactly if it is.
pub record IsTrace (net : Topology) (events : List Event) (trace : Trace) : Type 0 where
  pub outcomes : trace.outcomes ≡ outcomes_of net events
  pub rates : trace.rates ≡ rates_after net (facts_after net events)
  pub held : trace.held ≡ held_after net (facts_after net events)
  pub totals : trace.totals ≡ totals_after net (facts_after net events)
  pub capacities : trace.capacities ≡ capacities_after net (facts_after net events)
  pub safe : (trace.safe ≡ true) ↔ IsSafe net (facts_after net events)
