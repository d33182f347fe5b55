-- Ports with their journals, by what was seen of the history.
use Rattle.std.specs.Prelude.{◌≡◌, ◌<◌, ℕ, List, [], ◌∷◌, ◌++◌, length, map, Some, All}
use Rattle.abt_net.specs.Topology.{Topology, IsWithinRules}
use Rattle.abt_model.specs.declared.event.Event.{Event}
use Rattle.abt_model.specs.Events.{AsksRate}
use Rattle.abt_model.specs.PortTable.{port_table}
use Rattle.abt_journal.specs.declared.input.PortInput.{PortInput}
use Rattle.abt_journal.specs.declared.input.PortReply.{PortReply}
use Rattle.abt_journal.specs.Journaled.{Journaled}
use Rattle.abt_journal.specs.Receipts.{Seated}
use Rattle.abt_journal.specs.Replay.{reply_by, table_after}
use Rattle.abt_weave.specs.Projections.{past_of, visit, step_of, steps_on}
use Rattle.abt_history.specs.declared.deed.Deed.{Deed}
use Rattle.abt_history.specs.Histories.{happened, ends_of_port}

-- what contracts see of a port in a run: its number, its state with the journal, and what was seen when it had its last step
pub record StationView : Type 0 where
  pub port : ℕ
  pub state : Journaled
  pub front : List Deed

-- Its journal is the port's part of what was seen, and it hasn't ended.
pub record IsStation (net : Topology) (station : StationView) : Type 0 where
  pub rules : IsWithinRules net
  pub low : station.port < length net.capacities
  pub opening : station.state.opening ≡ port_table net [] station.port
  pub steps : steps_on net station.port (happened station.front) ≡ map step_of station.state.entries
  pub unended : ends_of_port station.port station.front ≡ 0

-- The newest event brought this to the port, which replied so.
pub record CameTo (net : Topology) (front : List Deed) (port : ℕ) (input : PortInput) (reply : PortReply) : Type 0 where
  pub event : Event
  pub earlier : List Event
  pub is : happened front ≡ event ∷ earlier
  pub rates : All AsksRate earlier
  pub comes : visit net (past_of net earlier) event ≡ Some (record { port = port; input = input; reply = reply })

-- The port has served an input of a caller, with this place and reply, and both have it.
pub record HasServed (old new : StationView) (before after : Seated) (input : PortInput) (place : ℕ) (reply : PortReply) : Type 0 where
  pub port : new.port ≡ old.port
  pub place_is : place ≡ length old.state.entries
  pub reply_is : reply ≡ reply_by old.state.table input
  pub state : new.state ≡ record {
    opening = old.state.opening;
    table = table_after old.state.table input;
    entries = old.state.entries ++ record { place = place; caller = before.caller; input = input; reply = reply } ∷ [];
  }
  pub receipt : after ≡ record {
    caller = before.caller;
    receipts = before.receipts ++ record { port = old.port; entry = record { place = place; caller = before.caller; input = input; reply = reply } } ∷ [];
  }
