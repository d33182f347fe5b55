-- How far a source had come when its first port served something, and the entry for that which its journal lacks (docs/JOURNALS.md, "What
-- may be left out").
use Rattle.std.specs.Prelude.{ℕ, ◌+◌, ◌==◌, max, Bool, true, false, nat_lt, nat_le, List, [], ◌∷◌, Option, None, Some, if◌then◌else◌}
use Rattle.std.specs.List.{cons_option}
use Rattle.abt_net.specs.declared.conn.Conn.{Conn}
use Rattle.abt_model.specs.declared.entry.SourceEntry.{SourceEntry}
use Rattle.abt_model.specs.declared.entry.SourceEntry.TheVariants.{Sent, Arrived}
use Rattle.abt_derive.specs.declared.derived.Derived.{Derived}
use Rattle.abt_derive.specs.declared.served.Served.{Served}
use Rattle.abt_derive.specs.declared.served.Served.TheVariants as served
use Rattle.abt_derive.specs.declared.told.Cell.{Cell}
use Rattle.abt_derive.specs.declared.told.Placed.{Placed}
use Rattle.abt_derive.specs.declared.walk.Walk.{Walk}
use Rattle.abt_derive.specs.Lists.{behind_first}
use Rattle.abt_derive.specs.Tells.{asked_in, cells_in, sent_in, arrived_in}

-- So many entries of a journal stand before what its first port serves next, at least; these cells can still come, and these entries may
-- tell its places.
pub record Way : Type 0 where
  pub reached : ℕ
  pub cells : List Cell
  pub sent : List Placed
  pub arrived : List Placed

abbrev pub way_of : Walk → Way
way_of walk = record { reached = walk.reached; cells = walk.cells.now; sent = walk.sent.now; arrived = walk.arrived.now }

abbrev pub are_any : {A : Type 0} → List A → Bool
are_any [] = false
are_any (item ∷ items) = true

-- whether a journal tells itself which requests were served, and which cells
abbrev pub tells_sent : List SourceEntry → Bool
tells_sent entries = are_any (sent_in entries)

abbrev pub tells_arrived : List SourceEntry → Bool
tells_arrived entries = are_any (arrived_in entries)

-- before the first step
abbrev pub way_in : List SourceEntry → Way
way_in entries = record { reached = 0; cells = cells_in entries; sent = sent_in entries; arrived = arrived_in entries }

-- those that tell this place or a later one
abbrev pub from_place : (place : ℕ) → List Placed → List Placed
from_place place told = behind_first (λ one. nat_lt one.place place) told

-- how many entries there are up to the next of these, if it tells this place
abbrev pub behind_at : (place : ℕ) → List Placed → ℕ
behind_at place [] = 0
behind_at place (one ∷ more) = if one.place == place then one.behind else 0

-- whether a cell left before the entry up to which there are so many
abbrev pub left_before : (behind : ℕ) → Cell → Bool
left_before behind cell = nat_lt cell.behind behind

-- Behind the entry that asks a request, up to which there are so many, no cell comes any more that left before.
abbrev pub past_ask : (behind : ℕ) → Way → Way
past_ask behind way = record way { reached = max way.reached behind; cells = behind_first (left_before behind) way.cells }

-- behind the entry that tells a place itself
abbrev pub past_sent : (place : ℕ) → Way → Way
past_sent place way = record way { reached = max way.reached (behind_at place (from_place place way.sent)); sent = from_place place way.sent }

abbrev pub past_arrived : (place : ℕ) → Way → Way
past_arrived place way =
    record way { reached = max way.reached (behind_at place (from_place place way.arrived)); arrived = from_place place way.arrived }

-- A request of a number that the entry asks up to which there are so many, or that none asks.
abbrev pub past_request : (tells : Bool) → (place : ℕ) → Option ℕ → Way → Way
past_request tells place None way = way
past_request tells place (Some behind) way = if tells then past_sent place (past_ask behind way) else past_ask behind way

-- It stands as early as it can behind the entry that asks it.
abbrev pub entry_for_request : (tells : Bool) → (place : ℕ) → Option ℕ → Way → Option Derived
entry_for_request tells place None way = None
entry_for_request tells place (Some behind) way =
    if tells then None else Some (record { before = (past_ask behind way).reached; entry = Sent place })

-- the window in which a cell comes has ended before a moment, or has begun by then
abbrev pub has_ended : Conn → (at : ℕ) → Cell → Bool
has_ended conn at cell = nat_lt (cell.at + conn.delay + conn.tau) at

abbrev pub has_begun : Conn → (at : ℕ) → Cell → Bool
has_begun conn at cell = nat_le (cell.at + conn.delay) at

-- Of these cells, whose windows haven't ended, the first is the one that came, if its window has begun.
abbrev pub past_cell : Conn → (at : ℕ) → List Cell → Way → Way
past_cell conn at [] way = record way { cells = [] }
past_cell conn at (cell ∷ more) way =
    if has_begun conn at cell then record way { reached = max way.reached cell.behind; cells = more } else record way { cells = cell ∷ more }

abbrev pub entry_for_cell : Conn → (place at : ℕ) → List Cell → Way → Option Derived
entry_for_cell conn place at [] way = None
entry_for_cell conn place at (cell ∷ more) way =
    if has_begun conn at cell then Some (record { before = max way.reached cell.behind; entry = Arrived cell.number place }) else None

-- the cells that can still come at a moment
abbrev pub still_coming : Conn → (at : ℕ) → Way → List Cell
still_coming conn at way = behind_first (has_ended conn at) way.cells

-- the way behind a step
abbrev pub past : Conn → List SourceEntry → Served → Way → Way
past conn entries (served.Request place seq) way = past_request (tells_sent entries) place (asked_in entries seq) way
past conn entries (served.Cell place at) way =
    if tells_arrived entries then past_arrived place way else past_cell conn at (still_coming conn at way) way

-- the entry for a step that the journal lacks
abbrev pub entry_for : Conn → List SourceEntry → Served → Way → Option Derived
entry_for conn entries (served.Request place seq) way = entry_for_request (tells_sent entries) place (asked_in entries seq) way
entry_for conn entries (served.Cell place at) way =
    if tells_arrived entries then None else entry_for_cell conn place at (still_coming conn at way) way

-- the entries that a journal lacks, if its first port serves these from here on
abbrev pub derived_from : Conn → List SourceEntry → Way → List Served → List Derived
derived_from conn entries way [] = []
derived_from conn entries way (one ∷ more) =
    cons_option (entry_for conn entries one way) (derived_from conn entries (past conn entries one way) more)

abbrev pub derived_in : Conn → List SourceEntry → List Served → List Derived
derived_in conn entries all = derived_from conn entries (way_in entries) all
