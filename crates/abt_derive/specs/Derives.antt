-- A run whose sources' journals are completed (docs/JOURNALS.md, "What may be left out").
use Rattle.std.specs.Prelude.{◌≡◌, ℕ, ◌+◌, List, [], ◌∷◌, Option, None, Some, slice_index_or}
use Rattle.abt_journal.specs.declared.entry.Entry.{Entry}
use Rattle.abt_journal_text.specs.Books.{lists_of}
use Rattle.abt_journal_text.specs.declared.run.Run.{Run}
use Rattle.abt_journal_text.specs.declared.spot.Spot.{Spot}
use Rattle.abt_model.specs.declared.entry.SourceEntry.{SourceEntry}
use Rattle.abt_model.specs.declared.journal.SourceJournal.{SourceJournal}
use Rattle.abt_net.specs.Topology.{Topology, conn_at}
use Rattle.abt_net.specs.declared.conn.Conn.{Conn}
use Rattle.abt_derive.specs.Completes.{Completes, Line, entries_of, full_lines, spots_in}
use Rattle.abt_derive.specs.Serves.{first_of, served_along}
use Rattle.abt_derive.specs.Walks.{derived_in}
use Rattle.abt_derive.specs.declared.derived.Derived.{Derived}

-- the number of the first port of the path of a connection
abbrev pub first_port : Option Conn → ℕ
first_port None = 0
first_port (Some conn) = first_of conn

abbrev pub spots_of : List (List Spot) → ℕ → List Spot
spots_of lists n = slice_index_or lists n []

-- what the journal of a connection's source lacks, over the journals of these ports
abbrev pub lacks : List (List Entry) → Option Conn → List SourceEntry → List Derived
lacks ports None entries = []
lacks ports (Some conn) entries = derived_in conn entries (served_along ports conn)

-- the lines of the journal of source c once it is completed
abbrev pub lines_at : Topology → List (List Entry) → (port_spots source_spots : List (List Spot)) → (c : ℕ) → SourceJournal → List Line
lines_at net ports port_spots source_spots c journal =
    full_lines (spots_of port_spots (first_port (conn_at net c))) (spots_of source_spots c) 0 journal.entries (lacks ports (conn_at net c) journal.entries)

-- The journal of source c is completed by what the first port of its path served: it has what was written, and just the entries that it
-- lacks.
pub record CompletesAt (net : Topology) (ports : List (List Entry)) (port_spots source_spots : List (List Spot)) (c : ℕ)
    (journal full : SourceJournal) (spots : List Spot) : Type 0 where
  pub completes : Completes (spots_of port_spots (first_port (conn_at net c))) (spots_of source_spots c) 0 journal.entries full.entries spots
  pub entries_are : full.entries ≡ entries_of (lines_at net ports port_spots source_spots c journal)
  pub spots_are : spots ≡ spots_in (lines_at net ports port_spots source_spots c journal)

-- Those of the sources from this number on are.
abbrev pub AreCompletedFrom : Topology → List (List Entry) → (port_spots source_spots : List (List Spot)) → (c : ℕ)
    → (sources full : List SourceJournal) → (full_spots : List (List Spot)) → Type 0
AreCompletedFrom net ports port_spots source_spots c [] full full_spots = (full ≡ []) × (full_spots ≡ [])
AreCompletedFrom net ports port_spots source_spots c (journal ∷ more) (one ∷ others) (spots ∷ rest) =
    CompletesAt net ports port_spots source_spots c journal one spots
    × AreCompletedFrom net ports port_spots source_spots (c + 1) more others rest
AreCompletedFrom net ports port_spots source_spots c (journal ∷ more) full full_spots = ⊥

-- A run with the journals of its sources completed, and all else as it was.
pub record IsDerived (told run : Run) : Type 0 where
  pub same : run ≡ record told { sources = run.sources; source_spots = run.source_spots }
  pub completed : AreCompletedFrom told.net told.journals (lists_of told.port_spots) (lists_of told.source_spots) 0 told.sources.items run.sources.items
      (lists_of run.source_spots)
