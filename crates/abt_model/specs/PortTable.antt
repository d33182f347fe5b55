-- The table that the facts of a net give a port: what each connection through it reserves and, at its first hop, what its policer
-- keeps.
use Rattle.std.specs.Prelude.{◌≡◌, ◌≢◌, ℕ, ◌+◌, ◌<◌, ◌≤◌, ◌==◌, Bool, List, [], ◌∷◌, length, if◌then◌else◌, max, unwrap_or, Option, None, Some, Result, Ok}
use Rattle.std.specs.FinMap.{from_entries}
use Rattle.abt_cell.specs.Channel.{Channel}
use Rattle.abt_gcra.specs.declared.verdict.Verdict.{Verdict}
use Rattle.abt_gcra.specs.Windows.{Arrival}
use Rattle.abt_gcra.specs.Policing.{Policing}
use Rattle.abt_node.specs.declared.reply.Onward.{Onward}
use Rattle.abt_node.specs.declared.reply.Back.{Back}
use Rattle.abt_node.specs.Table as table
use Rattle.abt_node.specs.Table.{Connection, Table, connection_at, sum_of, reply_to, table_after, table_after_answer, arrival_at, table_after_arrival, capacity_set, table_after_capacity}
use Rattle.abt_ledger.specs.declared.fault.CapacityFault.{CapacityFault}
use Rattle.abt_net.specs.declared.conn.Conn.{Conn}
use Rattle.abt_net.specs.Topology.{Topology, conn_at}
use Rattle.abt_facts.specs.declared.fact.Fact.{Fact}
use Rattle.abt_facts.specs.Cells.{taken_of, last_arrival_of}
use Rattle.abt_model.specs.declared.event.Event.{Event}
use Rattle.abt_model.specs.declared.event.Event.TheVariants.{Request, Answer, Arrive, Capacity}
use Rattle.abt_model.specs.declared.target.Target.{Target}
use Rattle.abt_model.specs.declared.target.Target.TheVariants.{Port}
use Rattle.abt_model.specs.declared.outcome.Outcome.TheVariants.{Arrived, Requested, Answered}
use Rattle.abt_model.specs.Targets.{target_of, hop_in}
use Rattle.abt_model.specs.Events.{AsksRate}
use Rattle.abt_model.specs.Past.{Past, facts_of}
use Rattle.abt_model.specs.Reserved.{reserved_on, capacity_of}
use Rattle.abt_net.specs.Paths.{hop_of}
use Rattle.abt_cell.specs.Message.{answer_to}
use Rattle.abt_source.specs.SourceFacts.{request_of}
use Rattle.abt_model.specs.Decision.{reservation_at}
use Rattle.abt_model.specs.Answers.{capped}
use Rattle.abt_model.specs.Outcomes.{conn_of, outcome_of, after_event}

-- the theoretical arrival time after cells that were taken, the last first
abbrev pub due_after : List Arrival → Option ℕ
due_after [] = None
due_after (cell ∷ cells) = Some (max cell.at (unwrap_or (due_after cells) cell.at) + cell.spacing)

-- what a policer of this tolerance keeps
abbrev pub policing_by : ℕ → List Fact → Policing
policing_by tau facts = record { tau = tau; tat = due_after (taken_of facts); clock = last_arrival_of facts }

-- what the port at hop j keeps of a connection
abbrev pub kept_at : Conn → List Fact → ℕ → Connection
kept_at conn facts j = record {
  reservation = reservation_at facts j;
  policing = if j == 1 then Some (policing_by conn.tau facts) else None;
}

-- what a port keeps of each connection through it, of those from number c on
abbrev pub kept_from : ℕ → List Conn → Past → ℕ → List (Channel × Connection)
kept_from c [] past p = []
kept_from c (conn ∷ conns) past p =
    if hop_of conn.path p == 0
    then kept_from (c + 1) conns past p
    else (conn.vc, kept_at conn (facts_of c past) (hop_of conn.path p)) ∷ kept_from (c + 1) conns past p

-- the table of port p
abbrev pub port_table : Topology → Past → ℕ → Table
port_table net past p = record {
  id = p;
  capacity = capacity_of net past p;
  connections = from_entries (kept_from 0 net.conns past p);
}

-- the hop that an event comes to, 0 if it comes to none; cells come to the first
abbrev pub hop_visited : Event → ℕ
hop_visited event = hop_in (target_of event)

-- what happens at a port alone comes to that port, if the net has it
abbrev pub VisitsAlone : Topology → Target → ℕ → Type 0
VisitsAlone net (Port q capacity) p = (q ≡ p) × (q < length net.capacities)
VisitsAlone net other p = ⊥

-- an event comes to a port: one of a connection to that at a hop of its path
abbrev pub VisitsBy : Topology → Event → ℕ → Option ℕ → Type 0
VisitsBy net event p None = VisitsAlone net (target_of event) p
VisitsBy net event p (Some c) = (conn : Conn) × (conn_at net c ≡ Some conn) × (1 ≤ hop_visited event) × (hop_of conn.path p ≡ hop_visited event)

abbrev pub Visits : Topology → Event → ℕ → Type 0
Visits net event p = VisitsBy net event p (conn_of event)

-- The total of a port's table is what is reserved on it, and at most its capacity.
abbrev pub TotalsAreReserved : Topology → Past → Type 0
TotalsAreReserved net past = (p : ℕ) → sum_of (port_table net past p) ≡ reserved_on net past p

-- A port's table has each connection through it.
abbrev pub TablesHaveRows : Topology → Past → Type 0
TablesHaveRows net past =
    (c p : ℕ) (conn : Conn) → conn_at net c ≡ Some conn → hop_of conn.path p ≢ 0 →
    connection_at (port_table net past p) conn.vc ≡ Some (kept_at conn (facts_of c past) (hop_of conn.path p))

-- A request that is enabled is served as the port that it comes to serves it, and the table after it is that of the past after it.
abbrev pub RequestsServed : Topology → Past → Type 0
RequestsServed net past =
    (c hop seq p : ℕ) (conn : Conn) (onward : Onward) → conn_at net c ≡ Some conn → hop_of conn.path p ≡ hop →
    outcome_of net past (Request c hop seq) ≡ Requested onward →
    (reply_to (port_table net past p) (request_of conn.vc (facts_of c past) seq) ≡ onward) ×
    (table_after (port_table net past p) (request_of conn.vc (facts_of c past) seq) ≡ port_table net (after_event net past (Request c hop seq)) p)

-- An answer that is enabled is served as the port that it comes to serves it, and the table after it is that of the past after it.
abbrev pub AnswersServed : Topology → Past → Type 0
AnswersServed net past =
    (c hop seq p : ℕ) (granted : Bool) (conn : Conn) (back : Back) → conn_at net c ≡ Some conn → hop_of conn.path p ≡ hop →
    outcome_of net past (Answer c hop seq granted) ≡ Answered back →
    (table.answer_to (port_table net past p) (answer_to (request_of conn.vc (facts_of c past) seq) granted) ≡ back) ×
    (table_after_answer (port_table net past p) (answer_to (request_of conn.vc (facts_of c past) seq) granted) ≡ port_table net (after_event net past (Answer c hop seq granted)) p)

-- A cell that is enabled is served so too, and no port refuses to judge it.
abbrev pub ArrivalsServed : Topology → Past → Type 0
ArrivalsServed net past =
    (c cell at p : ℕ) (conn : Conn) (verdict : Verdict) → conn_at net c ≡ Some conn → hop_of conn.path p ≡ 1 →
    outcome_of net past (Arrive c cell at) ≡ Arrived verdict →
    (arrival_at (port_table net past p) conn.vc at ≡ Ok verdict) ×
    (table_after_arrival (port_table net past p) conn.vc at ≡ port_table net (after_event net past (Arrive c cell at)) p)

-- A capacity that a port is to have is served so too, whether it is set or refused.
abbrev pub CapacitiesServed : Topology → Past → Type 0
CapacitiesServed net past =
    (p capacity : ℕ) (answer : Result (Unit {0}) CapacityFault) → outcome_of net past (Capacity p capacity) ≡ capped answer →
    (capacity_set (port_table net past p) capacity ≡ answer) ×
    (table_after_capacity (port_table net past p) capacity ≡ port_table net (after_event net past (Capacity p capacity)) p)

-- A port to which an event doesn't come keeps its table.
abbrev pub TablesStay : Topology → Past → Type 0
TablesStay net past =
    (event : Event) (p : ℕ) → AsksRate event → ¬ Visits net event p → port_table net (after_event net past event) p ≡ port_table net past p
