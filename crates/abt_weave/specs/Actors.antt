-- The sources and ports of a net in one order.
use Rattle.std.specs.Prelude.{ℕ, ◌+◌, ◌-◌, ◌<◌, nat_lt, List, length, slice_index, if◌then◌else◌}
use Rattle.abt_net.specs.Topology.{Topology}
use Rattle.abt_model.specs.declared.event.Event.{Event}
use Rattle.abt_weave.specs.declared.actor.Actor.{Actor}
use Rattle.abt_weave.specs.declared.actor.Actor.TheVariants.{Source, Port}
use Rattle.abt_weave.specs.Projections.{steps_on, entries_on}
use Rattle.abt_weave.specs.Stuck.{RunJournals, port_journal, source_journal}

-- sources come before ports
abbrev pub actor_count : Topology → ℕ
actor_count net = length net.conns + length net.capacities

abbrev pub actor_at : Topology → (number : ℕ) → Actor
actor_at net number = if nat_lt number (length net.conns) then Source number else Port (number - length net.conns)

-- this is one of so many sources and so many ports
abbrev pub IsAmong : (sources ports : ℕ) → Actor → Type 0
IsAmong sources ports (Source c) = c < sources
IsAmong sources ports (Port p) = p < ports

-- the place of an actor among those of all sources and ports
abbrev pub place_in : (sources ports : List ℕ) → Actor → ℕ
place_in sources ports (Source c) = slice_index sources c
place_in sources ports (Port p) = slice_index ports p

-- how many entries of an actor the events are, and how many it has
abbrev pub placed_on : Topology → List Event → Actor → ℕ
placed_on net earlier (Source c) = length (entries_on net c earlier)
placed_on net earlier (Port p) = length (steps_on net p earlier)

abbrev pub entry_count : RunJournals → Actor → ℕ
entry_count journals (Source c) = length (source_journal journals c)
entry_count journals (Port p) = length (port_journal journals p)
