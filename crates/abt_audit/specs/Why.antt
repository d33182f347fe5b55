-- Why the protocol answers as it does at an entry that mismatches: the numbers by which it decides, and the line that made them so
-- (docs/AUDITS.md, "What is told").
use Rattle.std.specs.Prelude.{◌≡◌, ◌≢◌, ℕ, ◌+◌, ◌-◌, ◌<◌, List, [], ◌∷◌, length, take, Option, None, Some, Err, MatchOption, option_and_then, option_map, unwrap_or, slice_get, codes, string_bytes, String}
use Rattle.std.specs.declared.alloc.Global.{Global}
use Rattle.abt_text.specs.Text.{Text, ◌⋅◌, decimal, newline}
use Rattle.abt_cell.specs.Channel.{Channel}
use Rattle.abt_node.specs.Table.{Table, connection_at, held_at, sum_of}
use Rattle.abt_model.specs.PortTable.{port_table}
use Rattle.abt_model.specs.declared.outcome.Outcome.{Outcome}
use Rattle.abt_model.specs.declared.journal.SourceJournal.{SourceJournal}
use Rattle.abt_net.specs.declared.conn.Conn.{Conn}
use Rattle.abt_net.specs.Topology.{conn_at}
use Rattle.abt_journal.specs.Replay.{replay}
use Rattle.abt_journal.specs.declared.entry.Entry.{Entry}
use Rattle.abt_journal.specs.declared.input.PortInput.{PortInput}
use Rattle.abt_journal.specs.declared.input.PortInput.TheVariants.{Request, Answer, Arrive, Capacity}
use Rattle.abt_journal.specs.declared.input.PortReply.{PortReply}
use Rattle.abt_journal.specs.declared.input.PortReply.TheVariants.{Requested, Answered, Capped}
use Rattle.abt_journal_text.specs.Books.{lists_of}
use Rattle.abt_journal_text.specs.declared.run.Run.{Run}
use Rattle.abt_journal_text.specs.declared.spot.Spot.{Spot}
use Rattle.abt_reason.specs.Reasons.{back_reason, capacity_reason, onward_reason, reason_text}
use Rattle.abt_reason.specs.declared.grounds.Numbers.{Numbers}
use Rattle.abt_reason.specs.declared.grounds.Numbers.TheVariants.{Nothing, AtHop, Newest, Reserved}
use Rattle.abt_weave.specs.declared.actor.Actor.{Actor}
use Rattle.abt_weave.specs.declared.actor.Actor.TheVariants.{Source, Port}
use Rattle.abt_audit.specs.Names.{name_in}
use Rattle.abt_audit.specs.Protocol.{port_answer, source_answer}
use Rattle.abt_audit.specs.Stuck.{item_at}
use Rattle.abt_audit.specs.declared.why.Why.{Why}

-- the newest number that a port decided for a channel, and the rate that it holds for it; 0 if it doesn't know the channel
abbrev pub newest_at : Table → Channel → ℕ
newest_at table vc = unwrap_or (option_map (λ c. c.reservation.newest) (connection_at table vc)) 0

abbrev pub holds_at : Table → Channel → ℕ
holds_at table vc = unwrap_or (option_map held_at (connection_at table vc)) 0

-- the numbers by which a port with this table decides an input
abbrev pub numbers_at : Table → PortInput → Numbers
numbers_at table (Request request) =
    AtHop request.seq (newest_at table request.vc) request.ask (holds_at table request.vc) (sum_of table) table.capacity
numbers_at table (Answer answer) = Newest (newest_at table answer.terms.vc)
numbers_at table (Arrive vc at) = Nothing
numbers_at table (Capacity capacity) = Reserved (sum_of table)

-- the numbers for an input after so many entries of a port
abbrev pub numbers_after : Table → List Entry → PortInput → (count : ℕ) → Numbers
numbers_after opening entries input count = numbers_at (replay opening (take count entries)) input

-- One of the first entries changed the numbers for an input, and none behind it did; or none of them did.
abbrev pub IsLastWithin : Table → List Entry → PortInput → (count : ℕ) → Option ℕ → Type 0
IsLastWithin opening entries input count last = MatchOption last
    ((k : ℕ) → k < count → numbers_after opening entries input (k + 1) ≡ numbers_after opening entries input k)
    (λ place. (place < count)
    × (numbers_after opening entries input (place + 1) ≢ numbers_after opening entries input place)
    × ((k : ℕ) → place < k → k < count → numbers_after opening entries input (k + 1) ≡ numbers_after opening entries input k))

abbrev pub IsLastChange : Table → List Entry → PortInput → Option ℕ → Type 0
IsLastChange opening entries input last = IsLastWithin opening entries input (length entries) last

-- the reason of a port's reply, by its numbers
abbrev pub port_reason : Numbers → PortReply → Text
port_reason numbers (Requested reply) = onward_reason numbers reply
port_reason numbers (Answered reply) = back_reason numbers reply
port_reason numbers (Capped (Err fault)) = capacity_reason numbers fault
port_reason numbers reply = []

-- that of a source's outcome, as far as no number decides it
abbrev pub source_reason : Option Outcome → Text
source_reason None = []
source_reason (Some outcome) = reason_text (record { numbers = Nothing; sought = None }) outcome

-- the line from which on something is so, if there is one
abbrev pub since_text : List (String Global) → Option Spot → Text
since_text names None = []
since_text names (Some spot) = codes " since " ⋅ name_in (slice_get names (spot.text - 1)) ⋅ codes ":" ⋅ decimal spot.line

-- the line of a reason; none if there is no reason
abbrev pub why_line : (reason since : Text) → Text
why_line [] since = []
why_line (octet ∷ more) since = codes "why" ⋅ (octet ∷ more) ⋅ since ⋅ newline

abbrev pub reason_by : Numbers → Option PortReply → Text
reason_by numbers None = []
reason_by numbers (Some reply) = port_reason numbers reply

-- There is no reason.
pub record IsNoWhy (why : Why) : Type 0 where
  pub reason : string_bytes why.reason ≡ []
  pub since : why.since ≡ None

-- This is why the protocol replies as it does to the entry of a port, and since which line its numbers are these.
pub record IsPortWhy (run : Run) (p place : ℕ) (entries : List Entry) (entry : Entry) (why : Why) : Type 0 where
  pub last : Option ℕ
  pub is_last : IsLastChange (port_table run.net [] p) (take place entries) entry.input last
  pub reason : string_bytes why.reason ≡ reason_by (numbers_at (replay (port_table run.net [] p) (take place entries)) entry.input) (port_answer run.net p entries place)
  pub since : why.since ≡ option_and_then (item_at (lists_of run.port_spots) p) last

abbrev pub IsWhyAt : Run → (p place : ℕ) → Option (List Entry) → Why → Type 0
IsWhyAt run p place None why = IsNoWhy why
IsWhyAt run p place (Some entries) why =
    MatchOption (slice_get entries place) (IsNoWhy why) (λ entry. IsPortWhy run p place entries entry why)

abbrev pub source_reason_at : (place : ℕ) → Option Conn → Option SourceJournal → Text
source_reason_at place (Some conn) (Some journal) = source_reason (source_answer conn.vc journal.entries place)
source_reason_at place conn journal = []

-- This is why the outcome of a source is as it is: no line of its journal changes its reason.
pub record IsSourceWhy (run : Run) (c place : ℕ) (why : Why) : Type 0 where
  pub reason : string_bytes why.reason ≡ source_reason_at place (conn_at run.net c) (slice_get run.sources.items c)
  pub since : why.since ≡ None

-- This is why the protocol answers as it does at the entry of an actor.
abbrev pub IsWhy : Run → Actor → (place : ℕ) → Why → Type 0
IsWhy run (Port p) place why = IsWhyAt run p place (slice_get run.journals p) why
IsWhy run (Source c) place why = IsSourceWhy run c place why

-- the line of a reason
abbrev pub why_text : List (String Global) → Why → Text
why_text names why = why_line (string_bytes why.reason) (since_text names why.since)
