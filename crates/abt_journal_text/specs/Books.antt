-- What texts of journals have told so far.
use Rattle.std.specs.Prelude.{◌≡◌, ℕ, Bool, true, false, List, [], ◌∷◌, ◌++◌, length, map, replicate, Option, None, Some, IfSome, Vec, slice_index_or, slice_set}
use Rattle.std.specs.declared.alloc.Global.{Global}
use Rattle.abt_net.specs.Topology.{Topology}
use Rattle.abt_journal.specs.declared.entry.Entry.{Entry}
use Rattle.abt_model.specs.declared.entry.SourceEntry.{SourceEntry}
use Rattle.abt_model.specs.declared.journal.SourceJournal.{SourceJournal}
use Rattle.abt_journal_text.specs.declared.open_write.OpenWrite.{OpenWrite}
use Rattle.abt_journal_text.specs.declared.run.Run.{Run}
use Rattle.abt_journal_text.specs.declared.spot.Spot.{Spot}

-- The net, the journals of its ports and of its sources by their numbers, where each of their entries stands, which entries leave open
-- whether a write that failed was stored, in the order in which they were read, the lines in whose middle texts ended, and whether the end of
-- the text was read.
pub record Told : Type 0 where
  pub net : Option Topology
  pub ports : List (List Entry)
  pub sources : List (List SourceEntry)
  pub port_spots : List (List Spot)
  pub source_spots : List (List Spot)
  pub open_writes : List OpenWrite
  pub cuts : List Spot
  pub ended : Bool

-- There is a journal for each port and each source of the net.
pub record IsSized (told : Told) : Type 0 where
  pub ports : IfSome told.net (λ net. length told.ports ≡ length net.capacities)
  pub sources : IfSome told.net (λ net. length told.sources ≡ length net.conns)
  pub port_spots : length told.port_spots ≡ length told.ports
  pub source_spots : length told.source_spots ≡ length told.sources

-- nothing was told, and no text was begun
abbrev pub blank : Told
blank = record { net = None; ports = []; sources = []; port_spots = []; source_spots = []; open_writes = []; cuts = []; ended = true }

-- the next text is begun
abbrev pub with_text : Told → Told
with_text told = record {
  net = told.net;
  ports = told.ports;
  sources = told.sources;
  port_spots = told.port_spots;
  source_spots = told.source_spots;
  open_writes = told.open_writes;
  cuts = told.cuts;
  ended = false;
}

-- lists, not seen by where they lie in memory
abbrev pub lists_of : {A : Type 0} → Vec (Vec A Global) Global → List (List A)
lists_of {A} lists = map (λ (items : Vec A Global). items.items) lists.items

-- an item more in the list of a number
abbrev pub appended_at : {A : Type 0} → List (List A) → ℕ → A → List (List A)
appended_at lists n item = slice_set lists n (slice_index_or lists n [] ++ item ∷ [])

-- the steps of a port so far
abbrev pub steps_at : Told → ℕ → List Entry
steps_at told p = slice_index_or told.ports p []

-- a step at another place
abbrev pub placed : (place : ℕ) → Entry → Entry
placed place entry = record { place = place; caller = entry.caller; input = entry.input; reply = entry.reply }

-- the entries of a source so far
abbrev pub entries_at : Told → ℕ → List SourceEntry
entries_at told c = slice_index_or told.sources c []

-- the net, before any entry
abbrev pub with_net : Topology → Told → Told
with_net net told = record {
  net = Some net;
  ports = replicate (length net.capacities) [];
  sources = replicate (length net.conns) [];
  port_spots = replicate (length net.capacities) [];
  source_spots = replicate (length net.conns) [];
  open_writes = told.open_writes;
  cuts = told.cuts;
  ended = told.ended;
}

-- a step of a port more
abbrev pub with_step : Spot → ℕ → Entry → Told → Told
with_step spot p entry told = record {
  net = told.net;
  ports = appended_at told.ports p entry;
  sources = told.sources;
  port_spots = appended_at told.port_spots p spot;
  source_spots = told.source_spots;
  open_writes = told.open_writes;
  cuts = told.cuts;
  ended = told.ended;
}

-- an entry of a source more
abbrev pub with_entry : Spot → ℕ → SourceEntry → Told → Told
with_entry spot c entry told = record {
  net = told.net;
  ports = told.ports;
  sources = appended_at told.sources c entry;
  port_spots = told.port_spots;
  source_spots = appended_at told.source_spots c spot;
  open_writes = told.open_writes;
  cuts = told.cuts;
  ended = told.ended;
}

-- an entry more, of a source that leaves open whether a write that failed was stored
abbrev pub with_open : Spot → ℕ → SourceEntry → Told → Told
with_open spot c entry told = record {
  net = told.net;
  ports = told.ports;
  sources = appended_at told.sources c entry;
  port_spots = told.port_spots;
  source_spots = appended_at told.source_spots c spot;
  open_writes = told.open_writes ++ record { source = c; place = length (entries_at told c) } ∷ [];
  cuts = told.cuts;
  ended = told.ended;
}

-- the end of the text
abbrev pub with_end : Told → Told
with_end told = record {
  net = told.net;
  ports = told.ports;
  sources = told.sources;
  port_spots = told.port_spots;
  source_spots = told.source_spots;
  open_writes = told.open_writes;
  cuts = told.cuts;
  ended = true;
}

-- a line in whose middle the text ends
abbrev pub with_cut : Spot → Told → Told
with_cut spot told = record {
  net = told.net;
  ports = told.ports;
  sources = told.sources;
  port_spots = told.port_spots;
  source_spots = told.source_spots;
  open_writes = told.open_writes;
  cuts = told.cuts ++ spot ∷ [];
  ended = told.ended;
}

-- the journal of a source with these entries
abbrev pub journal_of : List SourceEntry → SourceJournal
journal_of entries = record { entries = entries }

-- The net and the journals of a run are what was told, and there is a journal for each port and each source.
pub record IsToldRun (told : Told) (run : Run) : Type 0 where
  pub net : told.net ≡ Some run.net
  pub ports : run.journals ≡ told.ports
  pub sources : run.sources.items ≡ map journal_of told.sources
  pub port_spots : lists_of run.port_spots ≡ told.port_spots
  pub source_spots : lists_of run.source_spots ≡ told.source_spots
  pub open_writes : run.open_writes.items ≡ told.open_writes
  pub cuts : run.cuts.items ≡ told.cuts
  pub port_count : length run.journals ≡ length run.net.capacities
  pub source_count : length run.sources.items ≡ length run.net.conns

-- The run is the one that was told, if a net was told.
abbrev pub IsToldRunIfAny : Told → Option Run → Type 0
IsToldRunIfAny told None = told.net ≡ None
IsToldRunIfAny told (Some run) = IsToldRun told run
