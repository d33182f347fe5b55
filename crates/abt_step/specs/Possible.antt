-- What can happen next of what was sent: messages that lie somewhere, and cells that may arrive (docs/FORMATS.md, "Events line by line").
use Rattle.std.specs.Prelude.{◌≡◌, ℕ, zero, suc, ◌+◌, ◌-◌, ◌^◌, ◌<◌, ◌≤◌, ◌↔◌, ⊤, nat_lt, max, List, [], ◌∷◌, ◌++◌, map, Option, None, Some, slice_get, if◌then◌else◌}
use Rattle.std.specs.List.{Contains, enumerate_from}
use Rattle.abt_facts.specs.declared.fact.Fact.{Fact}
use Rattle.abt_facts.specs.declared.fact.Fact.TheVariants as fact
use Rattle.abt_facts.specs.Cells.{emitted_of, fence_of, last_arrival_of, moment_of}
use Rattle.abt_net.specs.Topology.{Topology}
use Rattle.abt_net.specs.declared.conn.Conn.{Conn}
use Rattle.abt_model.specs.declared.event.Event.{Event}
use Rattle.abt_model.specs.declared.event.Event.TheVariants.{Ask, Arrive}
use Rattle.abt_model.specs.declared.net_fact.NetFact.TheVariants.{OfConn, Capped}
use Rattle.abt_model.specs.declared.outcome.Outcome.{Outcome}
use Rattle.abt_model.specs.declared.outcome.Outcome.TheVariants.{Asked, NotEnabled}
use Rattle.abt_model.specs.Outcomes.{outcome_of}
use Rattle.abt_model.specs.Past.{Past, facts_of}
use Rattle.abt_reason.specs.Sightings.{lying}
use Rattle.abt_reason.specs.declared.sighting.Sighting.{Sighting}
use Rattle.abt_step.specs.Moments.{window_start, window_end}
use Rattle.abt_step.specs.declared.possible.CellWindow.{CellWindow}
use Rattle.abt_step.specs.declared.possible.Possible.{Possible}

-- ---- messages

-- the requests that were asked, each by its connection and its number, the first one first
abbrev pub asks_of : Past → List (ℕ × ℕ)
asks_of [] = []
asks_of (OfConn c (fact.Asked seq floor ask mark) ∷ past) = asks_of past ++ (c, seq) ∷ []
asks_of (fact ∷ past) = asks_of past

-- the request that an event asks, by its outcome
abbrev pub asked_by : Event → Outcome → List (ℕ × ℕ)
asked_by (Ask c rate plan) (Asked request) = (c, request.seq) ∷ []
asked_by event outcome = []

-- the event that takes a message on from where it lies, if it was sent
abbrev pub next_of : Option Sighting → List Event
next_of None = []
next_of (Some sighting) = sighting.next ∷ []

abbrev pub messages_at : Topology → Past → List (ℕ × ℕ) → List Event
messages_at net past [] = []
messages_at net past (key ∷ keys) = next_of (lying net past key.0 key.1) ++ messages_at net past keys

-- for each request that was asked, in this order, the event that takes it, or the answer to it, on from where it was sent last
abbrev pub possible_messages : Topology → Past → List Event
possible_messages net past = messages_at net past (asks_of past)

-- ---- cells

-- when a cell that left at a moment may be at the first hop: its line's delay later, at most tau more, and not before the last arrival
abbrev pub window_of : (c : ℕ) → Conn → (last cell moment : ℕ) → CellWindow
window_of c conn last cell moment = record {
  conn = c;
  cell = cell;
  from = max (window_start moment conn.delay) last;
  to = window_end moment conn.delay conn.tau;
}

-- a window in which there is a moment
abbrev pub if_open : CellWindow → List CellWindow
if_open window = if nat_lt window.to window.from then [] else window ∷ []

-- the windows of some cells of a connection, from one on
abbrev pub windows_from : (c : ℕ) → Conn → List Fact → (first count : ℕ) → List CellWindow
windows_from c conn facts first zero = []
windows_from c conn facts first (suc count) = windows_from c conn facts first count
    ++ if_open (window_of c conn (last_arrival_of facts) (first + count) (moment_of facts (first + count)))

-- those of all cells that left and aren't behind the fence
abbrev pub windows_of : (c : ℕ) → Conn → List Fact → List CellWindow
windows_of c conn facts = windows_from c conn facts (fence_of facts) (emitted_of facts - fence_of facts)

-- the cells of each connection that may arrive
abbrev pub possible_cells : Topology → Past → List (List CellWindow)
possible_cells net past = map (λ numbered. windows_of numbered.0 numbered.1 (facts_of numbered.0 past)) (enumerate_from 0 net.conns)

abbrev pub possible_after : Topology → Past → Possible
possible_after net past = record { messages = possible_messages net past; cells = possible_cells net past }

-- ---- what is listed is enabled, and what is enabled of these kinds is listed

abbrev pub IsEnabled : Outcome → Type 0
IsEnabled (NotEnabled cause) = ⊥
IsEnabled outcome = ⊤

-- Each message that was sent is listed, by the event that takes it on from where it was sent last, and each event that is listed is enabled.
pub record MessagesArePossible (net : Topology) (past : Past) : Type 0 where
  pub listed : (c seq : ℕ) (sighting : Sighting) → lying net past c seq ≡ Some sighting → Contains (possible_messages net past) sighting.next
  pub enabled : (event : Event) → Contains (possible_messages net past) event → IsEnabled (outcome_of net past event)

-- A cell of a connection is listed with a window that has a moment.
pub record IsListed (cells : List (List CellWindow)) (c cell at : ℕ) : Type 0 where
  pub windows : List CellWindow
  pub of : slice_get cells c ≡ Some windows
  pub window : CellWindow
  pub has : Contains windows window
  pub is : window.cell ≡ cell
  pub within : (window.from ≤ at) × (at ≤ window.to)

-- the arrival of a cell is enabled at the moments of its window, and at no other
abbrev pub CellsArePossible : Topology → Past → Type 0
CellsArePossible net past =
    (c cell at : ℕ) → at < 2 ^ 64 → IsListed (possible_cells net past) c cell at ↔ IsEnabled (outcome_of net past (Arrive c cell at))
