-- Why two lists are no net, and which fault is named if several apply.
use Rattle.std.specs.Prelude.{◌≡◌, ℕ, ◌<◌, ◌≤◌, ◌⊎◌, List, length, slice_index, IsSomeAnd, Any}
use Rattle.abt_rate.specs.Limits.{capacity_max, ports_max, net_connections_max, hops_max, tau_max, delay_max}
use Rattle.abt_net.specs.declared.conn.Conn.{Conn}
use Rattle.abt_net.specs.declared.fault.NetFault.{NetFault}
use Rattle.abt_net.specs.declared.fault.NetFault.TheVariants.{NoPort, PathLength, PathRepeat, VcRepeat, Limit, Memory}
use Rattle.abt_net.specs.Topology.{Topology, conn_at, channel_at}

-- The path names a port that a net of so many doesn't have.
abbrev pub LeavesNet : ℕ → Conn → Type 0
LeavesNet ports conn = Any (λ p. ports ≤ p) conn.path

-- The path has no hop, or too many.
abbrev pub HasWrongLength : Conn → Type 0
HasWrongLength conn = (length conn.path ≡ 0) ⊎ (hops_max < length conn.path)

-- The path visits a port, and later visits it again.
abbrev pub VisitsTwice : Conn → Type 0
VisitsTwice conn = (i : ℕ) × (j : ℕ) × (i < j) × (j < length conn.path) × (slice_index conn.path i ≡ slice_index conn.path j)

-- An earlier connection has the channel of connection c.
abbrev pub RepeatsChannel : List Conn → ℕ → Type 0
RepeatsChannel conns c = (c < length conns) × ((b : ℕ) × (b < c) × (channel_at conns b ≡ channel_at conns c))

-- There are too many ports or connections, a capacity is too great, or a connection's tau or delay is too long.
abbrev pub IsPastLimits : Topology → Type 0
IsPastLimits net =
    (ports_max < length net.capacities)
    ⊎ ((net_connections_max < length net.conns)
    ⊎ (Any (λ u. capacity_max < u) net.capacities
    ⊎ Any (λ conn. (tau_max < conn.tau) ⊎ (delay_max < conn.delay)) net.conns))

-- what each fault says; of want of memory the lists say nothing
abbrev pub IsWrong : NetFault → Topology → Type 0
IsWrong (NoPort c) net = IsSomeAnd (conn_at net c) (LeavesNet (length net.capacities))
IsWrong (PathLength c) net = IsSomeAnd (conn_at net c) HasWrongLength
IsWrong (PathRepeat c) net = IsSomeAnd (conn_at net c) VisitsTwice
IsWrong (VcRepeat c) net = RepeatsChannel net.conns c
IsWrong Limit net = IsPastLimits net
IsWrong Memory net = ⊥

-- the order in which faults are looked for
abbrev pub number_of : NetFault → ℕ
number_of (NoPort _) = 1
number_of (PathLength _) = 2
number_of (PathRepeat _) = 3
number_of (VcRepeat _) = 4
number_of Limit = 5
number_of Memory = 6

-- the connection that a fault names
abbrev pub connection_of : NetFault → ℕ
connection_of (NoPort c) = c
connection_of (PathLength c) = c
connection_of (PathRepeat c) = c
connection_of (VcRepeat c) = c
connection_of Limit = 0
connection_of Memory = 0

-- The number decides before the connection.
abbrev pub ComesBefore : NetFault → NetFault → Type 0
ComesBefore earlier fault = (number_of earlier < number_of fault) ⊎ ((number_of earlier ≡ number_of fault) × (connection_of earlier < connection_of fault))

-- The fault applies, and none before it.
pub record IsFirstFault (net : Topology) (fault : NetFault) : Type 0 where
  pub wrong : IsWrong fault net
  pub none_before : (earlier : NetFault) → ComesBefore earlier fault → ¬ IsWrong earlier net
