-- Readings of a net after a past.
use Rattle.std.specs.Prelude.{ℕ, List, length, Option, None, Some, option_map, option_and_then, slice_get, if◌then◌else◌}
use Rattle.abt_net.specs.declared.conn.Conn.{Conn}
use Rattle.abt_net.specs.Topology.{Topology, conn_at}
use Rattle.abt_facts.specs.declared.fact.Fact.{Fact}
use Rattle.abt_facts.specs.Source.{rate_of, state_of, clock_of}
use Rattle.abt_facts.specs.Hop.{held_of, newest_of}
use Rattle.abt_facts.specs.Cells.{emitted_of, moment_of, fence_of, last_arrival_of}
use Rattle.abt_actor.specs.Actor.{awaited_in}
use Rattle.abt_index.specs.Kept.{asked_in}
use Rattle.abt_model.specs.Answers.{is_hop}
use Rattle.abt_model.specs.Past.{Past, facts_of}
use Rattle.abt_model.specs.Reserved.{reserved_on, capacity_of}
use Rattle.abt_world.specs.declared.progress.Progress.{Progress}

-- the rate at which the source of connection c shapes, if the net has so many
abbrev pub rate_in : Topology → Past → ℕ → Option ℕ
rate_in net past c = option_map (λ (_ : Conn). rate_of (facts_of c past)) (conn_at net c)

-- the floor and the asked rate of a request of connection c, if the net has so many and its source asked it
abbrev pub asked_for : Topology → Past → (c seq : ℕ) → Option (ℕ × ℕ)
asked_for net past c seq = option_and_then (λ (_ : Conn). asked_in (facts_of c past) seq) (conn_at net c)

-- the rate that a hop of its path holds for it, if the path has so many
abbrev pub held_in : Topology → Past → (c hop : ℕ) → Option ℕ
held_in net past c hop = option_and_then (λ (conn : Conn). if is_hop (length conn.path) hop then Some (held_of (facts_of c past) hop) else None) (conn_at net c)

-- the rate reserved on a port, if the net has so many
abbrev pub total_in : Topology → Past → ℕ → Option ℕ
total_in net past port = option_map (λ (_ : ℕ). reserved_on net past port) (slice_get net.capacities port)

-- the capacity of a port that is in force, if the net has so many
abbrev pub capacity_in : Topology → Past → ℕ → Option ℕ
capacity_in net past port = option_map (λ (_ : ℕ). capacity_of net past port) (slice_get net.capacities port)

-- the newest number that a hop of its path decided for a connection, if the path has so many
abbrev pub newest_in : Topology → Past → (c hop : ℕ) → Option ℕ
newest_in net past c hop = option_and_then (λ (conn : Conn). if is_hop (length conn.path) hop then Some (newest_of (facts_of c past) hop) else None) (conn_at net c)

-- the moment at which a cell of a connection left, if the net has so many connections; 0 if it didn't leave
abbrev pub moment_in : Topology → Past → (c cell : ℕ) → Option ℕ
moment_in net past c cell = option_map (λ (_ : Conn). moment_of (facts_of c past) cell) (conn_at net c)

-- how far a connection has come
abbrev pub progress_of : List Fact → Progress
progress_of facts = record {
  clock = clock_of facts;
  awaited = awaited_in (state_of facts);
  emitted = emitted_of facts;
  fence = fence_of facts;
  last_arrival = last_arrival_of facts;
}

abbrev pub progress_in : Topology → Past → ℕ → Option Progress
progress_in net past c = option_map (λ (_ : Conn). progress_of (facts_of c past)) (conn_at net c)
