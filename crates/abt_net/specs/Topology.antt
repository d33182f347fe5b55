-- Nets, and the rules that they keep.
use Rattle.std.specs.Prelude.{◌≢◌, ℕ, ◌<◌, ◌≤◌, List, length, Option, slice_get, option_map, All, AllPairs}
use Rattle.abt_rate.specs.Limits.{capacity_max, ports_max, net_connections_max, hops_max, tau_max, delay_max}
use Rattle.abt_cell.specs.Channel.{Channel}
use Rattle.abt_net.specs.declared.conn.Conn.{Conn}

-- the capacities of the ports and the connections; both are numbered from 0 by their place
pub record Topology : Type 0 where
  pub capacities : List ℕ
  pub conns : List Conn

-- connection number c, if the net has so many
abbrev pub conn_at : Topology → ℕ → Option Conn
conn_at net c = slice_get net.conns c

-- the channel of connection number c of a list, if it has so many
abbrev pub channel_at : List Conn → ℕ → Option Channel
channel_at conns c = option_map (λ (conn : Conn). conn.vc) (slice_get conns c)

-- the rules of one connection, in a net of so many ports
pub record IsConnWithin (ports : ℕ) (conn : Conn) : Type 0 where
  pub in_net : All (λ p. p < ports) conn.path
  pub has_hop : 0 < length conn.path
  pub hops : length conn.path ≤ hops_max
  pub visits_once : AllPairs (λ p q. p ≢ q) conn.path
  pub tau : conn.tau ≤ tau_max
  pub delay : conn.delay ≤ delay_max

-- the rules that each net keeps
pub record IsWithinRules (net : Topology) : Type 0 where
  pub each_conn : All (IsConnWithin (length net.capacities)) net.conns
  pub own_channels : AllPairs (λ b c. b.vc ≢ c.vc) net.conns
  pub ports : length net.capacities ≤ ports_max
  pub connections : length net.conns ≤ net_connections_max
  pub each_capacity : All (λ u. u ≤ capacity_max) net.capacities
