-- States of the ports of a net (docs/RULES.md, "Journals").
use Rattle.std.specs.Prelude.{◌≡◌, ℕ, ◌<◌, List, [], map, length, Option, None, Some, slice_get, nat_lt, if◌then◌else◌}
use Rattle.abt_node.specs.Table.{Table}
use Rattle.abt_net.specs.Topology.{Topology}
use Rattle.abt_model.specs.PortTable.{port_table}
use Rattle.abt_journal.specs.declared.entry.Entry.{Entry}
use Rattle.abt_journal.specs.Journaled.{Journaled}
use Rattle.abt_journal.specs.Replay.{IsHistory}
use Rattle.abt_journal.specs.Gathered.{journal_at}

-- the table with which port p of a net begins, if the net has so many ports
abbrev pub opening_of : Topology → ℕ → Option Table
opening_of net p = if nat_lt p (length net.capacities) then Some (port_table net [] p) else None

-- the tables with which the states began
abbrev pub openings_of : List Journaled → List Table
openings_of states = map (λ s. s.opening) states

-- The state at place p began as port p of the net, or there is neither such a state nor such a port.
abbrev pub IsPortOf : Topology → List Journaled → ℕ → Type 0
IsPortOf net states p = slice_get (openings_of states) p ≡ opening_of net p

-- The states are those of the net's ports.
abbrev pub AreOfNet : Topology → List Journaled → Type 0
AreOfNet net states = (p : ℕ) → IsPortOf net states p

-- The lowest place at which the states aren't the net's ports.
pub record IsFirstForeign (net : Topology) (states : List Journaled) (p : ℕ) : Type 0 where
  pub foreign : ¬ IsPortOf net states p
  pub none_before : (q : ℕ) → q < p → IsPortOf net states q

-- Each port's journal is one of one thread, from the table with which the net's port begins.
pub record AreHistories (net : Topology) (journals : List (List Entry)) : Type 0 where
  pub ports : length journals ≡ length net.capacities
  pub each : (p : ℕ) → p < length journals → IsHistory (port_table net [] p) (journal_at journals p)
