-- The events of a run, each with its outcome and the messages that it sent and brought.
use Rattle.std.specs.Prelude.{ℕ, List, [], ◌∷◌, length, Option, None, Some, option_map, unwrap_or}
use Rattle.abt_net.specs.declared.conn.Conn.{Conn}
use Rattle.abt_net.specs.Topology.{Topology, conn_at}
use Rattle.abt_model.specs.declared.event.Event.{Event}
use Rattle.abt_model.specs.declared.outcome.Outcome.{Outcome}
use Rattle.abt_model.specs.Outcomes.{conn_of, outcome_of, after_event}
use Rattle.abt_model.specs.Past.{Past}
use Rattle.abt_chart.specs.declared.told.Told.{Told}
use Rattle.abt_chart.specs.Messages.{sent_by, brought_by}

-- how many hops the path of a connection has
abbrev pub hops_of : Topology → Option ℕ → ℕ
hops_of net None = 0
hops_of net (Some c) = unwrap_or (option_map (λ (conn : Conn). length conn.path) (conn_at net c)) 0

-- an event that answered so
abbrev pub told_of : Topology → Event → Outcome → Told
told_of net event outcome = record {
  event = event;
  outcome = outcome;
  sent = sent_by (hops_of net (conn_of event)) event outcome;
  brought = brought_by event outcome;
}

-- the events after a past, each with its outcome after those before it
abbrev pub told_from : Topology → Past → List Event → List Told
told_from net past [] = []
told_from net past (event ∷ events) = told_of net event (outcome_of net past event) ∷ told_from net (after_event net past event) events

-- the events from the beginning, each with its outcome after those before it
abbrev pub told_after : Topology → List Event → List Told
told_after net events = told_from net [] events
