-- How many entries of its own maps and lists a world looks up for an event.
use Rattle.std.specs.Prelude.{ℕ, ◌+◌, List, length, Option, None, Some, is_some, if◌then◌else◌, nat_le, nat_lt, Bool, true, false}
use Rattle.abt_net.specs.declared.conn.Conn.{Conn}
use Rattle.abt_net.specs.Topology.{Topology, conn_at}
use Rattle.abt_facts.specs.declared.fact.Fact.{Fact}
use Rattle.abt_facts.specs.Source.{rate_of}
use Rattle.abt_index.specs.Index.{is_of_message}
use Rattle.abt_safety.specs.Tallies.{one_if, count_of}
use Rattle.abt_model.specs.declared.event.Event.{Event}
use Rattle.abt_model.specs.declared.event.Event.TheVariants.{Arrive, Request, Turn, Answer, Told}
use Rattle.abt_model.specs.declared.target.Target.{Target}
use Rattle.abt_model.specs.declared.target.Target.TheVariants.{Port}
use Rattle.abt_model.specs.declared.outcome.Cause.{Cause}
use Rattle.abt_model.specs.declared.outcome.Cause.TheVariants.{NotSent, Fenced}
use Rattle.abt_model.specs.declared.outcome.Outcome.{Outcome}
use Rattle.abt_model.specs.declared.outcome.Outcome.TheVariants.{Requested, Answered, Told as HasTold, NotEnabled}
use Rattle.abt_model.specs.Outcomes.{conn_of, outcome_of, facts_added, after_event}
use Rattle.abt_model.specs.Past.{Past, facts_of}
use Rattle.abt_model.specs.Targets.{target_of}
use Rattle.abt_world.specs.Touches.{visited}

-- a cell that doesn't arrive: when it was emitted, unless its number tells
abbrev pub looks_at_cell : Cause → ℕ
looks_at_cell NotSent = 0
looks_at_cell Fenced = 0
looks_at_cell cause = 1

-- a message that doesn't lie at a hop: whether it does, unless it is a no at the last of so many
abbrev pub looks_at_answer : (hops hop : ℕ) → (granted : Bool) → ℕ
looks_at_answer hops hop true = 1
looks_at_answer hops hop false = one_if (nat_lt hop hops)

-- What taking an event looks up, on a path of so many hops: of a cell when it was emitted, and the port twice; of a message whether it
-- lies there, what was asked, and the port that takes it. What a source does by itself looks nothing up.
abbrev pub looks_to_take : (hops : ℕ) → Event → Outcome → ℕ
looks_to_take hops (Arrive c cell at) (NotEnabled cause) = looks_at_cell cause
looks_to_take hops (Arrive c cell at) outcome = 3
looks_to_take hops (Request c hop seq) (Requested onward) = 3
looks_to_take hops (Request c hop seq) (NotEnabled NotSent) = 1
looks_to_take hops (Answer c hop seq granted) (Answered back) = 3
looks_to_take hops (Answer c hop seq granted) (NotEnabled NotSent) = looks_at_answer hops hop granted
looks_to_take hops (Turn c seq) outcome = 1
looks_to_take hops (Told c seq granted) (HasTold heard) = 2
looks_to_take hops (Told c seq granted) outcome = 1
looks_to_take hops event outcome = 0

-- what noting facts looks up: for each that is one of a message that message
abbrev pub looks_to_note : List Fact → ℕ
looks_to_note added = count_of is_of_message added

-- what an event of a connection with such facts and this outcome looks up, to be taken and noted
abbrev pub looks_to_happen : Conn → List Fact → Event → Outcome → ℕ
looks_to_happen conn facts event outcome = looks_to_take (length conn.path) event outcome + looks_to_note (facts_added facts event outcome)

-- the hops of a path that are asked whether they hold what a source sends, which came to another rate: all of them if it was raised, and
-- else the one that the event came to
abbrev pub hops_asked : (hops before after : ℕ) → Option ℕ → ℕ
hops_asked hops before after port = if nat_le after before then one_if (is_some port) else hops

-- What an event of a connection looks up after a past: the connection, what it needs to happen, and, to see whether all is still safe,
-- hops of the path and the port that it came to. An event of a connection that the net doesn't have looks nothing up.
abbrev pub looks_at : Topology → Past → Event → (c : ℕ) → Option Conn → ℕ
looks_at net past event c None = 0
looks_at net past event c (Some conn) =
    1 + looks_to_happen conn (facts_of c past) event (outcome_of net past event)
    + hops_asked (length conn.path) (rate_of (facts_of c past)) (rate_of (facts_of c (after_event net past event))) (visited conn event)
    + one_if (is_some (visited conn event))

-- An event of a port alone looks that up, if the net has it.
abbrev pub looks_alone : Topology → Target → ℕ
looks_alone net (Port p capacity) = one_if (nat_lt p (length net.capacities))
looks_alone net other = 0

abbrev pub looks_by : Topology → Past → Event → Option ℕ → ℕ
looks_by net past event None = looks_alone net (target_of event)
looks_by net past event (Some c) = looks_at net past event c (conn_at net c)

abbrev pub looks_of : Topology → Past → Event → ℕ
looks_of net past event = looks_by net past event (conn_of event)
