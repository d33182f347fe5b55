-- What the first port of a path served of its connection.
use Rattle.std.specs.Prelude.{◌≡◌, ◌==◌, ◌++◌, ◌∷◌, ℕ, List, [], length, map, Option, None, Some, Ok, option_and_then, filter_map, slice_index_or, if◌then◌else◌, Vec}
use Rattle.std.specs.declared.alloc.Global.{Global}
use Rattle.abt_cell.specs.Channel.{Channel, same_channel}
use Rattle.abt_journal.specs.declared.entry.Entry.{Entry}
use Rattle.abt_journal.specs.declared.input.PortInput.{PortInput}
use Rattle.abt_journal.specs.declared.input.PortInput.TheVariants as input
use Rattle.abt_journal.specs.declared.input.PortReply.{PortReply}
use Rattle.abt_journal.specs.declared.input.PortReply.TheVariants as reply
use Rattle.abt_net.specs.Topology.{Topology, conn_at}
use Rattle.abt_net.specs.declared.conn.Conn.{Conn}
use Rattle.abt_derive.specs.declared.served.Served.{Served}
use Rattle.abt_derive.specs.declared.served.Served.TheVariants.{Request, Cell}

-- the channel that an input is of, and what it is there: a request, or a cell that was policed
abbrev pub served_by : (place : ℕ) → PortInput → PortReply → Option (Channel × Served)
served_by place (input.Request request) reply = Some (request.vc, Request place request.seq)
served_by place (input.Arrive vc at) (reply.Arrived (Ok verdict)) = Some (vc, Cell place at)
served_by place input reply = None

abbrev pub served_in : Entry → Option (Channel × Served)
served_in step = served_by step.place step.input step.reply

-- what a step serves of one channel
abbrev pub of_channel : Channel → Channel × Served → Option Served
of_channel vc one = if same_channel one.0 vc then Some one.1 else None

abbrev pub served_on : Channel → Entry → Option Served
served_on vc step = option_and_then (of_channel vc) (served_in step)

-- the number of the first port of a path
abbrev pub first_of : Conn → ℕ
first_of conn = slice_index_or conn.path 0 0

-- what the first port of its path served of a connection, in the order of that port
abbrev pub served_along : List (List Entry) → Conn → List Served
served_along ports conn = filter_map (served_on conn.vc) (slice_index_or ports (first_of conn) [])

-- what of these a connection is served, so far, by its number
abbrev pub served_at : List (Vec Served Global) → (c : ℕ) → List Served
served_at lists c = slice_index_or (map (λ (items : Vec Served Global). items.items) lists) c []

-- what these steps of a port serve of a connection
abbrev pub served_of_port : (port : ℕ) → List Entry → Conn → List Served
served_of_port port steps conn = if first_of conn == port then filter_map (served_on conn.vc) steps else []

-- Behind what each connection was served there is what these steps of a port serve of it.
abbrev pub IsServedOfAll : Topology → (port : ℕ) → List Entry → (old new : List (Vec Served Global)) → Type 0
IsServedOfAll net port steps old new =
    (c : ℕ) (conn : Conn) → conn_at net c ≡ Some conn → served_at new c ≡ served_at old c ++ served_of_port port steps conn

abbrev pub IsServedMore : Topology → (port : ℕ) → Entry → (old new : List (Vec Served Global)) → Type 0
IsServedMore net port step old new = IsServedOfAll net port (step ∷ []) old new

-- Nothing was served of any of so many connections.
pub record IsNothingServed (count : ℕ) (all : Vec (Vec Served Global) Global) : Type 0 where
  pub sized : length all.items ≡ count
  pub none : (c : ℕ) → served_at all.items c ≡ []

-- What the first port of its path served of each connection, in the order of that port.
abbrev pub AreServed : Topology → List (List Entry) → Vec (Vec Served Global) Global → Type 0
AreServed net ports all = (c : ℕ) (conn : Conn) → conn_at net c ≡ Some conn → served_at all.items c ≡ served_along ports conn
