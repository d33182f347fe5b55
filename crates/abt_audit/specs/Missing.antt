-- What an entry at which a journal is stuck misses, after the events before such entries (docs/AUDITS.md, "What is told").
use Rattle.std.specs.Prelude.{ℕ, suc, ◌+◌, ◌==◌, ◌&&◌, min, nat_lt, List, [], ◌∷◌, Option, None, Some, if◌then◌else◌, option_map, slice_get}
use Rattle.abt_cell.specs.Channel.{Channel, same_channel}
use Rattle.abt_net.specs.declared.conn.Conn.{Conn}
use Rattle.abt_net.specs.Paths.{hop_of}
use Rattle.abt_net.specs.Topology.{Topology, conn_at}
use Rattle.abt_model.specs.Past.{Past}
use Rattle.abt_model.specs.declared.event.Event.{Event}
use Rattle.abt_model.specs.declared.event.Event.TheVariants.{Told}
use Rattle.abt_model.specs.declared.event.Event.TheVariants as event
use Rattle.abt_model.specs.declared.entry.SourceEntry.{SourceEntry}
use Rattle.abt_model.specs.declared.entry.SourceEntry.TheVariants.{Did, Sent, Arrived}
use Rattle.abt_world.specs.Readings.{asked_for, moment_in, progress_in}
use Rattle.abt_world.specs.declared.progress.Progress.{Progress}
use Rattle.abt_journal.specs.declared.entry.Entry.{Entry}
use Rattle.abt_journal.specs.declared.input.PortInput.{PortInput}
use Rattle.abt_journal.specs.declared.input.PortInput.TheVariants.{Request, Answer, Arrive, Capacity}
use Rattle.abt_journal_text.specs.Books.{lists_of}
use Rattle.abt_journal_text.specs.declared.run.Run.{Run}
use Rattle.abt_reason.specs.Grounds.{number}
use Rattle.abt_reason.specs.Sightings.{sought_of}
use Rattle.abt_weave.specs.declared.actor.Actor.{Actor}
use Rattle.abt_weave.specs.declared.actor.Actor.TheVariants as actor
use Rattle.abt_audit.specs.Stuck.{item_at, entry_at}
use Rattle.abt_audit.specs.declared.missing.Missing.{Missing}
use Rattle.abt_audit.specs.declared.missing.Missing.TheVariants as missing

-- the number of the connection that has this channel
abbrev pub number_in : List Conn → Channel → Option ℕ
number_in [] vc = None
number_in (conn ∷ conns) vc = if same_channel conn.vc vc then Some 0 else option_map suc (number_in conns vc)

-- the message that an event takes on, and where it lies
abbrev pub message_missing : Topology → Past → Event → Missing
message_missing net past event = missing.Message event (sought_of net past event)

-- a message has to be asked for, under its number and with its rates
abbrev pub asked_missing : (c seq floor ask : ℕ) → Option (ℕ × ℕ) → Missing → Missing
asked_missing c seq floor ask None other = missing.Unasked c seq
asked_missing c seq floor ask (Some asked) other = if floor == asked.0 && ask == asked.1 then other else missing.OtherRates c seq asked.0 asked.1

-- a request at the first hop stands beside an entry of its source
abbrev pub request_missing : Topology → Past → (c hop place seq : ℕ) → Missing
request_missing net past c hop place seq = if hop == 1 then missing.Beside c place else message_missing net past (event.Request c hop seq)

-- so long after a moment, as far as moments go
abbrev pub later : (moment time : ℕ) → ℕ
later moment time = min (moment + time) 18446744073709551615

-- the window in which a cell comes that left at this moment
abbrev pub window : Conn → (c cell moment : ℕ) → Missing
window conn c cell moment = missing.Cell c cell (later moment conn.delay) (later (later moment conn.delay) conn.tau)

-- the oldest cell that can still come: one that left, or the next that leaves
abbrev pub cell_missing : Topology → Past → Conn → (c : ℕ) → Option Progress → Missing
cell_missing net past conn c None = missing.Nothing
cell_missing net past conn c (Some progress) =
    if nat_lt progress.fence progress.emitted then window conn c progress.fence (number (moment_in net past c progress.fence)) else missing.NoCell c progress.fence

-- cells come to the first hop alone
abbrev pub arrival_missing : Topology → Past → Conn → (c hop p : ℕ) → Missing
arrival_missing net past conn c hop p = if hop == 1 then cell_missing net past conn c (progress_in net past c) else missing.NotFirst c p

-- what comes to a port at a hop of a connection
abbrev pub input_missing : Topology → Past → Conn → (c hop p place : ℕ) → PortInput → Missing
input_missing net past conn c hop p place (Request request) =
    asked_missing c request.seq request.floor request.ask (asked_for net past c request.seq) (request_missing net past c hop place request.seq)
input_missing net past conn c hop p place (Answer answer) =
    asked_missing c answer.terms.seq answer.terms.floor answer.terms.ask (asked_for net past c answer.terms.seq)
    (message_missing net past (event.Answer c hop answer.terms.seq answer.granted))
input_missing net past conn c hop p place (Arrive vc at) = arrival_missing net past conn c hop p
input_missing net past conn c hop p place (Capacity capacity) = missing.Nothing

-- the path of the connection visits the port
abbrev pub visit_missing : Topology → Past → (c p place : ℕ) → PortInput → Option Conn → Missing
visit_missing net past c p place input None = missing.Nothing
visit_missing net past c p place input (Some conn) = if hop_of conn.path p == 0 then missing.OffPath c p else input_missing net past conn c (hop_of conn.path p) p place input

-- the net has a connection of the channel
abbrev pub known_missing : Topology → Past → (p place : ℕ) → PortInput → Channel → Option ℕ → Missing
known_missing net past p place input vc None = missing.NoChannel vc
known_missing net past p place input vc (Some c) = visit_missing net past c p place input (conn_at net c)

abbrev pub channel_missing : Topology → Past → (p place : ℕ) → PortInput → Channel → Missing
channel_missing net past p place input vc = known_missing net past p place input vc (number_in net.conns vc)

-- the entry of a port; one that is about no channel misses nothing
abbrev pub step_missing : Topology → Past → (p place : ℕ) → Option PortInput → Missing
step_missing net past p place None = missing.Nothing
step_missing net past p place (Some (Request request)) = channel_missing net past p place (Request request) request.vc
step_missing net past p place (Some (Answer answer)) = channel_missing net past p place (Answer answer) answer.terms.vc
step_missing net past p place (Some (Arrive vc at)) = channel_missing net past p place (Arrive vc at) vc
step_missing net past p place (Some (Capacity capacity)) = missing.Nothing

-- the step of a port that an entry of a source goes with, and where that stands
abbrev pub beside_step : Run → (place : ℕ) → Option ℕ → Missing
beside_step run place None = missing.Nothing
beside_step run place (Some port) = missing.Step port place (item_at (lists_of run.port_spots) port place)

-- that of the first port of a path
abbrev pub beside_at : Run → (place : ℕ) → Option Conn → Missing
beside_at run place None = missing.Nothing
beside_at run place (Some conn) = beside_step run place (slice_get conn.path 0)

-- the entry of a source
abbrev pub entry_missing : Run → Past → (c : ℕ) → Option SourceEntry → Missing
entry_missing run past c (Some (Did (Told d seq granted) outcome)) = message_missing run.net past (Told d seq granted)
entry_missing run past c (Some (Sent place)) = beside_at run place (conn_at run.net c)
entry_missing run past c (Some (Arrived cell place)) = beside_at run place (conn_at run.net c)
entry_missing run past c other = missing.Nothing

-- what the entry of an actor misses after this past
abbrev pub missing_of : Run → Past → Actor → (place : ℕ) → Missing
missing_of run past (actor.Port p) place = step_missing run.net past p place (option_map (λ (entry : Entry). entry.input) (item_at run.journals p place))
missing_of run past (actor.Source c) place = entry_missing run past c (entry_at run.sources.items c place)
