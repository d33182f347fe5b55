-- Messages that were sent to a port, and what comes of them there. Events are listed with the newest first.
use Rattle.std.specs.Prelude.{◌≡◌, ◌⊎◌, ℕ, ◌-◌, ◌≤◌, Bool, true, false, List, ◌++◌, length, slice_index, Some}
use Rattle.abt_cell.specs.Message.{Terms, Reply, answer_to}
use Rattle.abt_cell.specs.declared.message.Rm.{Rm}
use Rattle.abt_cell.specs.declared.message.Rm.TheVariants as rm
use Rattle.abt_net.specs.declared.conn.Conn.{Conn}
use Rattle.abt_net.specs.Topology.{Topology, conn_at}
use Rattle.abt_facts.specs.Requests.{was_asked}
use Rattle.abt_facts.specs.Sent.{request_is_at, answer_is_at, answer_is_home, was_passed}
use Rattle.abt_source.specs.SourceFacts.{request_of}
use Rattle.abt_model.specs.declared.event.Event.{Event}
use Rattle.abt_model.specs.Answers.{is_hop}
use Rattle.abt_model.specs.Events.{AsksRate}
use Rattle.abt_model.specs.Past.{Past, facts_of}
use Rattle.abt_model.specs.PortTable.{port_table}
use Rattle.abt_journal.specs.declared.input.PortInput.{PortInput}
use Rattle.abt_journal.specs.declared.input.PortInput.TheVariants.{Request, Answer}
use Rattle.abt_journal.specs.Replay.{reply_by}
use Rattle.abt_weave.specs.Projections.{past_of, visit}
use Rattle.abt_weave.specs.Stuck.{AreTurns}
use Rattle.abt_weave.specs.Candidates.{is_beside}

abbrev pub input_of : Rm → PortInput
input_of (rm.Request request) = Request request
input_of (rm.Answer answer) = Answer answer

-- the port at a hop of a connection's path
pub record IsStopOf (net : Topology) (c : ℕ) (conn : Conn) (hop port : ℕ) : Type 0 where
  pub known : conn_at net c ≡ Some conn
  pub within : is_hop (length conn.path) hop ≡ true
  pub port_is : slice_index conn.path (hop - 1) ≡ port

-- a request was sent to a port behind the first of its path
pub record RequestLies (net : Topology) (past : Past) (port : ℕ) (request : Terms) : Type 0 where
  pub c : ℕ
  pub conn : Conn
  pub hop : ℕ
  pub seq : ℕ
  pub stop : IsStopOf net c conn hop port
  pub later : 2 ≤ hop
  pub asked : was_asked (facts_of c past) seq ≡ true
  pub sent : request_is_at (facts_of c past) seq hop ≡ true
  pub is : request ≡ request_of conn.vc (facts_of c past) seq

-- an answer was sent to a hop, or the last hop passed the request, and a Turn can make the yes
abbrev pub IsOnItsWay : Conn → Past → (c hop seq : ℕ) → Bool → Type 0
IsOnItsWay conn past c hop seq granted =
    (answer_is_at (length conn.path) (facts_of c past) seq hop granted ≡ true)
    ⊎ ((hop ≡ length conn.path) × (granted ≡ true) × (was_passed (facts_of c past) seq (length conn.path) ≡ true))

pub record AnswerLies (net : Topology) (past : Past) (port : ℕ) (answer : Reply) : Type 0 where
  pub c : ℕ
  pub conn : Conn
  pub hop : ℕ
  pub seq : ℕ
  pub granted : Bool
  pub stop : IsStopOf net c conn hop port
  pub asked : was_asked (facts_of c past) seq ≡ true
  pub sent : IsOnItsWay conn past c hop seq granted
  pub is : answer ≡ answer_to (request_of conn.vc (facts_of c past) seq) granted

abbrev pub Lies : Topology → Past → (port : ℕ) → Rm → Type 0
Lies net past port (rm.Request request) = RequestLies net past port request
Lies net past port (rm.Answer answer) = AnswerLies net past port answer

-- an answer was sent to the source of a connection
pub record LiesHome (net : Topology) (past : Past) (c : ℕ) (answer : Reply) : Type 0 where
  pub conn : Conn
  pub seq : ℕ
  pub granted : Bool
  pub known : conn_at net c ≡ Some conn
  pub asked : was_asked (facts_of c past) seq ≡ true
  pub sent : answer_is_home (facts_of c past) seq granted ≡ true
  pub is : answer ≡ answer_to (request_of conn.vc (facts_of c past) seq) granted

-- An event brings this to the port, maybe after Turns, and is replied to by the table that the port has now. It stands in no source's journal.
pub record ComesNow (net : Topology) (earlier : List Event) (port : ℕ) (input : PortInput) : Type 0 where
  pub turns : List Event
  pub all : AreTurns net earlier turns
  pub event : Event
  pub asks : AsksRate event
  pub far : is_beside event ≡ false
  pub comes : visit net (past_of net (turns ++ earlier)) event ≡ Some (record { port = port; input = input; reply = reply_by (port_table net (past_of net earlier) port) input })
