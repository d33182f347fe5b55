-- The outcome of an event after the past of a net, and the facts that it adds.
use Rattle.std.specs.Prelude.{ℕ, ◌+◌, ◌==◌, Bool, true, false, List, [], ◌∷◌, if◌then◌else◌, Option, None, Some, nat_lt, ◌++◌, length}
use Rattle.abt_keep.specs.Record.{KeptRecord}
use Rattle.abt_keep.specs.declared.plan.StorePlan.TheVariants.{FailsAfter}
use Rattle.abt_node.specs.declared.reply.Onward.{Onward}
use Rattle.abt_node.specs.declared.reply.Onward.TheVariants.{Pass, Refuse, Drop}
use Rattle.abt_node.specs.declared.reply.Back.{Back}
use Rattle.abt_node.specs.declared.reply.Back.TheVariants.{Pass as PassBack, Drop as DropBack}
use Rattle.abt_source.specs.declared.fault.AskFault.TheVariants.{Keep}
use Rattle.abt_net.specs.declared.conn.Conn.{Conn}
use Rattle.abt_net.specs.Topology.{Topology, conn_at}
use Rattle.abt_facts.specs.declared.fact.Fact.{Fact}
use Rattle.abt_facts.specs.declared.fact.Fact.TheVariants.{Started as FactStarted, Crashed as FactCrashed, Stored, Asked as FactAsked, Heard as FactHeard, Emitted as FactEmitted, Delivered, Passed, Shut, Turned as FactTurned, Back as FactBack, Arrived as FactArrived}
use Rattle.abt_facts.specs.Source.{rate_of, stored_of, writes, written_for}
use Rattle.abt_facts.specs.Hop.{held_of}
use Rattle.abt_facts.specs.Cells.{emitted_of}
use Rattle.abt_model.specs.declared.event.Event.{Event}
use Rattle.abt_model.specs.declared.event.Event.TheVariants.{Start, Ask, Crash, Emit, Arrive, Request, Turn, Answer, Told, Capacity}
use Rattle.abt_ledger.specs.Capacity.{capacity_fault, capacity_answer}
use Rattle.abt_model.specs.declared.net_fact.NetFact.TheVariants.{Capped}
use Rattle.abt_model.specs.declared.outcome.Cause.TheVariants.{Unknown}
use Rattle.abt_model.specs.declared.outcome.Heard.TheVariants.{Raised, Refused}
use Rattle.abt_model.specs.declared.outcome.Outcome.{Outcome}
use Rattle.abt_model.specs.declared.outcome.Outcome.TheVariants.{Started, Asked, AskRefused, Crashed, Emitted, Arrived, Requested, Turned, Answered, Told as HasTold, CapacitySet, NotEnabled}
use Rattle.abt_model.specs.Targets.{target_of, conn_in, port_in}
use Rattle.abt_model.specs.Past.{Past, facts_of, with_facts}
use Rattle.abt_model.specs.Reserved.{reserved_on, capacity_of}
use Rattle.abt_model.specs.Answers.{answer_by, capped}

-- the connection of an event, if it is of one, and the port that it comes to, by the path of its connection
abbrev pub conn_of : Event → Option ℕ
conn_of event = conn_in (target_of event)

abbrev pub port_of : List ℕ → Event → ℕ
port_of path event = port_in path (target_of event)

-- the outcome of an event of connection c
abbrev pub outcome_at : Topology → Past → (c : ℕ) → Option Conn → Event → Outcome
outcome_at net past c None event = NotEnabled Unknown
outcome_at net past c (Some conn) event =
    let port = port_of conn.path event in
    answer_by conn (reserved_on net past port) (capacity_of net past port) (facts_of c past) event

-- the outcome of an event of a port alone: a capacity is set if it is no less than what is reserved on the port, and
-- within the limit
abbrev pub outcome_alone : Topology → Past → Event → Outcome
outcome_alone net past (Capacity p u) =
    if nat_lt p (length net.capacities) then capped (capacity_answer (capacity_fault (reserved_on net past p) u)) else NotEnabled Unknown
outcome_alone net past event = NotEnabled Unknown

-- the outcome of an event; of one of a connection, by its facts
abbrev pub outcome_by : Topology → Past → Event → Option ℕ → Outcome
outcome_by net past event None = outcome_alone net past event
outcome_by net past event (Some c) = outcome_at net past c (conn_at net c) event

-- the outcome of an event after this past
abbrev pub outcome_of : Topology → Past → Event → Outcome
outcome_of net past event = outcome_by net past event (conn_of event)

-- a request that comes to the first hop is delivered, whatever becomes of it
abbrev pub delivery : (hop seq : ℕ) → List Fact
delivery hop seq = if hop == 1 then Delivered seq ∷ [] else []

abbrev pub request_adds : (hop seq : ℕ) → Onward → List Fact
request_adds hop seq Pass = Passed seq hop ∷ delivery hop seq
request_adds hop seq (Refuse answer) = Shut seq hop ∷ delivery hop seq
request_adds hop seq (Drop cause) = delivery hop seq

abbrev pub answer_adds : (hop seq : ℕ) → Bool → Back → List Fact
answer_adds hop seq true PassBack = FactBack seq hop ∷ []
answer_adds hop seq false PassBack = Shut seq hop ∷ []
answer_adds hop seq granted (DropBack cause) = []

-- what an ask writes stands in the store
abbrev pub write_adds : (writes : Bool) → KeptRecord → List Fact
write_adds writes written = if writes then Stored written ∷ [] else []

-- The facts that an event of a connection adds to those of that connection, by its outcome, the newest first.
abbrev pub facts_added : List Fact → Event → Outcome → List Fact
facts_added facts (Start c now) Started = FactStarted now (stored_of facts) ∷ []
facts_added facts (Ask c rate plan) (Asked request) =
    FactAsked request.seq request.floor request.ask (emitted_of facts) ∷ write_adds (writes facts rate) (written_for facts rate)
facts_added facts (Ask c rate FailsAfter) (AskRefused Keep) = Stored (written_for facts rate) ∷ []
facts_added facts (Crash c) Crashed = FactCrashed ∷ []
facts_added facts (Emit c now) (Emitted cell next) = FactEmitted cell now (rate_of facts) ∷ []
facts_added facts (Arrive c cell at) (Arrived verdict) = FactArrived cell at (held_of facts 1) verdict ∷ []
facts_added facts (Request c hop seq) (Requested onward) = request_adds hop seq onward
facts_added facts (Turn c seq) Turned = FactTurned seq ∷ []
facts_added facts (Answer c hop seq granted) (Answered back) = answer_adds hop seq granted back
facts_added facts (Told c seq granted) (HasTold Raised) = FactHeard seq true ∷ []
facts_added facts (Told c seq granted) (HasTold Refused) = FactHeard seq false ∷ []
facts_added facts event outcome = []

-- the facts that an event of a port alone adds, by its outcome
abbrev pub port_facts_added : Event → Outcome → Past
port_facts_added (Capacity p u) CapacitySet = Capped p u ∷ []
port_facts_added event outcome = []

-- the past with the facts that an event adds by its outcome: those of its connection, if it is of one, else those of
-- its port
abbrev pub past_by : Past → Event → Outcome → Option ℕ → Past
past_by past event outcome None = port_facts_added event outcome ++ past
past_by past event outcome (Some c) = with_facts c (facts_added (facts_of c past) event outcome) past

-- the past after an event
abbrev pub after_event : Topology → Past → Event → Past
after_event net past event = past_by past event (outcome_of net past event) (conn_of event)
