-- Where a port stands on the path of a connection.
use Rattle.std.specs.Prelude.{◌≡◌, ℕ, ◌-◌, true, length, slice_index, Some}
use Rattle.abt_net.specs.declared.conn.Conn.{Conn}
use Rattle.abt_net.specs.Topology.{Topology, conn_at}
use Rattle.abt_model.specs.Answers.{is_hop}
use Rattle.abt_journal.specs.declared.input.PortInput.{PortInput}
use Rattle.abt_weave.specs.Candidates.{channel_of}

-- an input is about the channel of the connection of this number, and the port at this hop of its path
pub record IsStop (net : Topology) (input : PortInput) (p c hop : ℕ) : Type 0 where
  pub conn : Conn
  pub known : conn_at net c ≡ Some conn
  pub channel : channel_of input ≡ Some conn.vc
  pub within : is_hop (length conn.path) hop ≡ true
  pub port : slice_index conn.path (hop - 1) ≡ p
