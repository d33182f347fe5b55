-- The numbers by which an event is decided, and the message that it is to deliver, as the past before it gives them.
use Rattle.std.specs.Prelude.{ℕ, length, Option, None, Some, option_map, unwrap_or}
use Rattle.abt_net.specs.declared.conn.Conn.{Conn}
use Rattle.abt_net.specs.Topology.{Topology, conn_at}
use Rattle.abt_model.specs.declared.event.Event.{Event}
use Rattle.abt_model.specs.declared.event.Event.TheVariants.{Start, Emit, Arrive, Request, Answer, Told, Capacity}
use Rattle.abt_model.specs.Outcomes.{conn_of}
use Rattle.abt_model.specs.Past.{Past}
use Rattle.abt_world.specs.declared.progress.Progress.{Progress}
use Rattle.abt_world.specs.Readings.{held_in, total_in, capacity_in, newest_in, asked_for, moment_in, progress_in}
use Rattle.abt_world.specs.Steps.{port_at}
use Rattle.abt_reason.specs.declared.grounds.Grounds.{Grounds}
use Rattle.abt_reason.specs.declared.grounds.Numbers.{Numbers}
use Rattle.abt_reason.specs.Sightings.{sought_of}
use Rattle.abt_reason.specs.declared.grounds.Numbers.TheVariants.{Nothing, NoConnection, NoPort, NoHop, Moment, Cell, AtHop, Newest, Waits, Reserved}

-- a number that is read, 0 if there is none
abbrev pub number : Option ℕ → ℕ
number read = unwrap_or read 0

-- a moment of a source, and its clock
abbrev pub moment_numbers : (now : ℕ) → Option Progress → Numbers
moment_numbers now None = Nothing
moment_numbers now (Some progress) = Moment now progress.clock

-- a cell that is to arrive: how many left, the fence, when it left, its delay and tolerance, and the last arrival
abbrev pub cell_numbers : Conn → (cell at moment : ℕ) → Option Progress → Numbers
cell_numbers conn cell at moment None = Nothing
cell_numbers conn cell at moment (Some progress) =
    Cell cell at progress.emitted progress.fence moment conn.delay conn.tau progress.last_arrival

-- a request at a hop: its number, the newest there, the asked rate, what the hop holds, and the sum and the capacity
-- of the port
abbrev pub hop_numbers : Topology → Past → (c hops hop seq : ℕ) → Option ℕ → Numbers
hop_numbers net past c hops hop seq None = NoHop hops
hop_numbers net past c hops hop seq (Some port) =
    AtHop seq (number (newest_in net past c hop)) (number (option_map (λ terms. terms.1) (asked_for net past c seq)))
    (number (held_in net past c hop)) (number (total_in net past port)) (number (capacity_in net past port))

-- an answer at a hop: the newest number there
abbrev pub answer_numbers : Topology → Past → (c hops hop : ℕ) → Option ℕ → Numbers
answer_numbers net past c hops hop None = NoHop hops
answer_numbers net past c hops hop (Some port) = Newest (number (newest_in net past c hop))

-- an answer at a source: the number that it waits for
abbrev pub waiting_numbers : Option Progress → Numbers
waiting_numbers None = Nothing
waiting_numbers (Some progress) = Waits progress.awaited

-- an event of a connection that the net has
abbrev pub numbers_at : Topology → Past → (c : ℕ) → Conn → Event → Numbers
numbers_at net past c conn (Start d now) = moment_numbers now (progress_in net past c)
numbers_at net past c conn (Emit d now) = moment_numbers now (progress_in net past c)
numbers_at net past c conn (Arrive d cell at) = cell_numbers conn cell at (number (moment_in net past c cell)) (progress_in net past c)
numbers_at net past c conn (Request d hop seq) = hop_numbers net past c (length conn.path) hop seq (port_at conn.path hop)
numbers_at net past c conn (Answer d hop seq granted) = answer_numbers net past c (length conn.path) hop (port_at conn.path hop)
numbers_at net past c conn (Told d seq granted) = waiting_numbers (progress_in net past c)
numbers_at net past c conn event = Nothing

abbrev pub numbers_by : Topology → Past → (c : ℕ) → Option Conn → Event → Numbers
numbers_by net past c None event = NoConnection (length net.conns)
numbers_by net past c (Some conn) event = numbers_at net past c conn event

-- a port that is to have another capacity: what is reserved on it
abbrev pub port_numbers : Topology → Option ℕ → Numbers
port_numbers net None = NoPort (length net.capacities)
port_numbers net (Some total) = Reserved total

abbrev pub numbers_alone : Topology → Past → Event → Numbers
numbers_alone net past (Capacity p u) = port_numbers net (total_in net past p)
numbers_alone net past event = Nothing

-- an event of a connection, if it is of one, else of a port
abbrev pub numbers_for : Topology → Past → Event → Option ℕ → Numbers
numbers_for net past event None = numbers_alone net past event
numbers_for net past event (Some c) = numbers_by net past c (conn_at net c) event

abbrev pub numbers_of : Topology → Past → Event → Numbers
numbers_of net past event = numbers_for net past event (conn_of event)

-- all by which the outcome of an event after a past can be told
abbrev pub grounds_of : Topology → Past → Event → Grounds
grounds_of net past event = record { numbers = numbers_of net past event; sought = sought_of net past event }
