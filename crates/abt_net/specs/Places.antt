-- How a net finds its connections: mechanism, which only proofs need.
use Rattle.std.specs.Prelude.{◌≡◌, ◌≢◌, ℕ, ◌<◌, List, length, Option, None, Some}
use Rattle.std.specs.declared.hash.BuildHasherDefault.{BuildHasherDefault}
use Rattle.std.specs.declared.hash.FoldHasher.{FoldHasher}
use Rattle.indexmap.specs.IndexMap as index
use Rattle.abt_cell.specs.Channel.{Channel, same_channel}
use Rattle.abt_net.specs.declared.conn.Conn.{Conn}
use Rattle.abt_net.specs.Topology.{Topology, channel_at, IsWithinRules}

-- the number of a connection that has the channel, or none of the first n has it
abbrev pub IsNumberOf : (conns : List Conn) (n : ℕ) → Channel → Option ℕ → Type 0
IsNumberOf conns n vc None = (c : ℕ) → c < n → channel_at conns c ≢ Some vc
IsNumberOf conns n vc (Some c) = channel_at conns c ≡ Some vc

-- an index of connections: their numbers by channel
abbrev pub Index : Type 0
Index = index.IndexMap Channel ℕ (BuildHasherDefault FoldHasher)

-- The index has the first n connections, and no channel of no connection.
abbrev pub IsIndexOf : Index → (conns : List Conn) (n : ℕ) → Type 0
IsIndexOf places conns n = (vc : Channel) → IsNumberOf conns n vc (index.get same_channel places vc)

-- what holds of a net: its rules are kept, and the index is that of its connections
pub record IsIndexed (net : Topology) (places : Index) : Type 0 where
  pub rules : IsWithinRules net
  pub indexed : IsIndexOf places net.conns (length net.conns)
