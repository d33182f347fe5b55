-- Tables of ports that have done nothing yet.
use Rattle.std.specs.Prelude.{◌≡◌, ℕ, map, Option}
use Rattle.std.specs.Option.{option_map, ForSome}
use Rattle.std.specs.FinMap.{entries, from_entries}
use Rattle.abt_cell.specs.Channel.{Channel}
use Rattle.abt_node.specs.Table.{Connection, Table, opening, connection_at}

-- the tolerance of a connection's policer, if the port is its ingress
abbrev pub tau_of : Connection → Option ℕ
tau_of c = option_map (λ p. p.tau) c.policing

-- what a port kept of a connection when it was added
abbrev pub as_added : Connection → Connection
as_added c = opening (tau_of c)

-- Each connection is kept as it was added.
pub record IsOpening (t : Table) : Type 0 where
  pub rows : (vc : Channel) → ForSome (connection_at t vc) (λ c. c ≡ as_added c)

-- the table with each connection as it was added, and with this capacity
abbrev pub reopened : (capacity : ℕ) → Table → Table
reopened capacity t = record {
  id = t.id;
  capacity = capacity;
  connections = from_entries (map (λ e. (e.0, as_added e.1)) (entries t.connections));
}
