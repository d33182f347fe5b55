-- One event at one connection, as the code takes it apart.
use Rattle.std.specs.Prelude.{◌≡◌, ℕ, ◌-◌, not, nat_lt, List, All, Option, None, Some, slice_get, slice_index, option_map, length, if◌then◌else◌}
use Rattle.abt_net.specs.declared.conn.Conn.{Conn}
use Rattle.abt_net.specs.Topology.{Topology, IsWithinRules, conn_at}
use Rattle.abt_node.specs.Table.{Table}
use Rattle.abt_facts.specs.declared.fact.Fact.{Fact}
use Rattle.abt_model.specs.declared.event.Event.{Event}
use Rattle.abt_model.specs.declared.outcome.Outcome.{Outcome}
use Rattle.abt_facts.specs.Cells.{emitted_of, fence_of, is_in_time, last_arrival_of}
use Rattle.abt_model.specs.declared.outcome.Cause.{Cause}
use Rattle.abt_model.specs.declared.outcome.Cause.TheVariants.{NotSent, Fenced, Delay, ClockBack}
use Rattle.abt_model.specs.declared.outcome.Outcome.TheVariants.{NotEnabled}
use Rattle.abt_model.specs.Answers.{is_hop}
use Rattle.abt_model.specs.Events.{AsksRate}
use Rattle.abt_model.specs.Past.{Past, facts_of}
use Rattle.abt_index.specs.Index.{Index, index_of}
use Rattle.abt_actor.specs.Actor.{ActorView, actor_of}
use Rattle.abt_model.specs.Outcomes.{outcome_of, facts_added, after_event}
use Rattle.abt_model.specs.Run.{facts_after}
use Rattle.abt_model.specs.PortTable.{port_table}

-- connection c of a net after events, and its facts
pub record IsConnAt (net : Topology) (past : Past) (c : ℕ) (conn : Conn) (facts : List Fact) : Type 0 where
  pub rules : IsWithinRules net
  pub events : List Event
  pub rates : All AsksRate events
  pub led : past ≡ facts_after net events
  pub known : conn_at net c ≡ Some conn
  pub facts_are : facts ≡ facts_of c past

-- the tables of all ports
abbrev pub ArePorts : Topology → Past → List Table → Type 0
ArePorts net past ports = (p : ℕ) → slice_get ports p ≡ option_map (λ (_ : ℕ). port_table net past p) (slice_get net.capacities p)

-- the outcome of an event of connection c, and what it adds
pub record Happens (net : Topology) (past : Past) (c : ℕ) (event : Event) (outcome : Outcome) (added : List Fact) : Type 0 where
  pub answer : outcome ≡ outcome_of net past event
  pub adds : added ≡ facts_added (facts_of c past) event outcome

-- the port at a hop of a path, if it has so many
abbrev pub port_at : List ℕ → ℕ → Option ℕ
port_at path hop = if is_hop (length path) hop then Some (slice_index path (hop - 1)) else None

-- why a cell can't arrive, if it can't: the first of the causes in their order
abbrev pub arrival_cause : Conn → List Fact → (cell at : ℕ) → Option Cause
arrival_cause conn facts cell at =
    if not (nat_lt cell (emitted_of facts)) then Some NotSent
    else (if nat_lt cell (fence_of facts) then Some Fenced
    else (if not (is_in_time conn.delay conn.tau facts cell at) then Some Delay
    else (if nat_lt at (last_arrival_of facts) then Some ClockBack
    else None)))

-- an outcome, unless there is a cause
abbrev pub unless : Option Cause → Outcome → Outcome
unless None outcome = outcome
unless (Some cause) outcome = NotEnabled cause

-- what an event of connection c leaves of its course and of the ports
pub record Leaves (net : Topology) (past : Past) (c : ℕ) (event : Event) (conn : Conn) (outcome : Outcome) (actor : ActorView) (index : Index) (ports : List Table) : Type 0 where
  pub answer : outcome ≡ outcome_of net past event
  pub index_is : index ≡ index_of (facts_of c (after_event net past event))
  pub actor_is : actor ≡ actor_of conn.vc (facts_of c (after_event net past event))
  pub tables : ArePorts net (after_event net past event) ports
