-- What decides whether an event happens, and what comes of it. Events are listed with the newest first.
use Rattle.std.specs.Prelude.{◌≡◌, ℕ, ◌<◌, List, ◌++◌, length, Some}
use Rattle.abt_net.specs.Topology.{Topology}
use Rattle.abt_model.specs.declared.event.Event.{Event}
use Rattle.abt_model.specs.declared.event.Event.TheVariants.{Arrive}
use Rattle.abt_model.specs.declared.outcome.Outcome.{Outcome}
use Rattle.abt_model.specs.Outcomes.{conn_of}
use Rattle.abt_model.specs.declared.entry.SourceEntry.TheVariants.{Did}
use Rattle.abt_weave.specs.Projections.{Visit, past_of, visit, steps_on, entry_made, entries_on}
use Rattle.abt_weave.specs.Stuck.{AreTurns, IsBeginning}

-- To each port and to each source the entries that some events are begin those that others are.
pub record AreBegun (net : Topology) (less more : List Event) : Type 0 where
  pub ports : (p : ℕ) → p < length net.capacities → IsBeginning (steps_on net p less) (steps_on net p more)
  pub conns : (c : ℕ) → c < length net.conns → IsBeginning (entries_on net c less) (entries_on net c more)

-- the source that a cell leaves has had the same entries; nothing else that comes to a port depends on its source's
abbrev pub HasSameSource : Topology → (less more : List Event) → Event → Type 0
HasSameSource net less more (Arrive c cell at) = entries_on net c less ≡ entries_on net c more
HasSameSource net less more other = Unit {0}

-- The event comes to its port, as this, after some more Turns, and is the same to its source.
pub record ComesSo (net : Topology) (less more : List Event) (event : Event) (v : Visit) : Type 0 where
  pub turns : List Event
  pub enabled : AreTurns net more turns
  pub comes : visit net (past_of net (turns ++ more)) event ≡ Some v
  pub beside : entry_made net (turns ++ more) event ≡ entry_made net less event

-- What happened at a port that has had the same entries happens there again, with the same reply.
abbrev pub PortsReplyAgain : Topology → (less more : List Event) → Type 0
PortsReplyAgain net less more =
    (event : Event) (v : Visit) → visit net (past_of net less) event ≡ Some v → steps_on net v.port less ≡ steps_on net v.port more → HasSameSource net less more event → ComesSo net less more event v

-- What a source that has had the same entries did it does again, with the same outcome.
abbrev pub SourcesAnswerAgain : Topology → (less more : List Event) → Type 0
SourcesAnswerAgain net less more =
    (c : ℕ) (event : Event) (outcome : Outcome) → c < length net.conns → conn_of event ≡ Some c → entry_made net less event ≡ Some (Did event outcome) → entries_on net c less ≡ entries_on net c more →
    entry_made net more event ≡ Some (Did event outcome)
